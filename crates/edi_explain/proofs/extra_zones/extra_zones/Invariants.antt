use Rattle.std.proofs.Common.{◌≡◌, length, take}
use Rattle.std.specs.List.{sum_by}
use Rattle.edi_explain.proofs.extra_zones.extra_zones.Given as goal

abbrev pub invariant-loop-place : goal.invariant-loop-place
invariant-loop-place l = l.count ≡ sum_by (λ r. length r.extras) (take l.place l.fn.plan.list)
