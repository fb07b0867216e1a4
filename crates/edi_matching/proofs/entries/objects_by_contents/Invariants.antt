use Rattle.std.proofs.Common.{◌≡◌, take}
use Rattle.std.specs.List.{filter_map}
use Rattle.edi_record.specs.declared.record.Kind.TheVariants.{Fea}
use Rattle.edi_plan.specs.Places.{places_of}
use Rattle.edi_matching.specs.inner.Entries.{content_entry}
use Rattle.edi_matching.proofs.entries.objects_by_contents.Given as goal

-- the objects so far
abbrev pub invariant-loop-place : goal.invariant-loop-place
invariant-loop-place l = l.objects.items ≡ filter_map (content_entry l.here.plan.now l.here.labels.now l.done) (take l.place-index (places_of Fea l.here.plan.now))
