use Rattle.std.proofs.Common.{◌≡◌, drop, find, map}
use Rattle.edi_plan.specs.Plans.{is_object, record_at}
use Rattle.edi_drawing.proofs.labels.first_object.Given as goal

abbrev pub invariant-loop-end : goal.invariant-loop-end
invariant-loop-end l = find (λ k. is_object (record_at l.plan k).kind) (map (λ e. e.target) (drop l.end-index l.ends)) ≡ find (λ k. is_object (record_at l.plan k).kind) (map (λ e. e.target) l.ends)
