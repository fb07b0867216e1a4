use Rattle.std.proofs.Common.{◌≡◌, take}
use Rattle.std.specs.List.{flat_map}
use Rattle.edi_record.specs.declared.record.Kind.TheVariants.{Lnk}
use Rattle.edi_plan.specs.Places.{places_of}
use Rattle.edi_matching.specs.inner.Entries.{link_entries}
use Rattle.edi_matching.proofs.entries.objects_beside.Given as goal

-- the entries of the links so far
abbrev pub invariant-loop-place : goal.invariant-loop-place
invariant-loop-place l = l.objects.items ≡ flat_map (link_entries l.here.plan.now l.here.labels.now l.there.labels.now l.contents l.to l.done) (take l.place-index (places_of Lnk l.here.plan.now))
