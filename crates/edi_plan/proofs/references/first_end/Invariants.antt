use Rattle.std.proofs.Common.{◌≡◌, drop, flat_map}
use Rattle.edi_plan.specs.Plans.{first_of}
use Rattle.edi_plan.proofs.references.first_end.Given as goal

abbrev pub invariant-loop-place : goal.invariant-loop-place
invariant-loop-place l = first_of (flat_map (λ r. r.ends) (drop l.place l.records)) ≡ first_of (flat_map (λ r. r.ends) l.records)
