use Rattle.std.proofs.Common.{◌≡◌, ℕ, take}
use Rattle.edi_record.specs.declared.record.Kind.TheVariants.{Lnk}
use Rattle.edi_plan.specs.Places.{places_of}
use Rattle.edi_plan.specs.Plans.{record_at}
use Rattle.edi_matching.specs.inner.Entries.{keyed_places}
use Rattle.edi_matching.specs.inner.PlainLinks.{plain_link}
use Rattle.edi_matching.proofs.plain_links.plain_links.Given as goal

-- the links so far
abbrev pub invariant-loop-place : goal.invariant-loop-place
invariant-loop-place l = l.links.items ≡ keyed_places (λ (k : ℕ). plain_link l.schema l.to l.turned (record_at l.plan k)) (take l.place-index (places_of Lnk l.plan))
