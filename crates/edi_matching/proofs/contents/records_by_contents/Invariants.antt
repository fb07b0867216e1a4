use Rattle.std.proofs.Common.{◌≡◌, take}
use Rattle.std.specs.List.{filter_map}
use Rattle.edi_plan.specs.Places.{places_of}
use Rattle.edi_matching.specs.inner.Contents.{held_at}
use Rattle.edi_matching.proofs.contents.records_by_contents.Given as goal

-- the records so far
abbrev pub invariant-loop-place : goal.invariant-loop-place
invariant-loop-place l = l.records.items ≡ filter_map (held_at l.plan) (take l.place-index (places_of l.fn.kind l.plan))
