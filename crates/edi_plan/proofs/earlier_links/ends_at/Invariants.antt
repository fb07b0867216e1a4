use Rattle.std.proofs.Common.{◌≡◌, drop}
use Rattle.std.specs.List.{list_any}
use Rattle.edi_plan.specs.inner.Findings.{is_arc_at}
use Rattle.edi_plan.specs.declared.record.PlanEnd.{PlanEnd}
use Rattle.edi_plan.proofs.earlier_links.ends_at.Given as goal

abbrev pub invariant-loop-end : goal.invariant-loop-end
invariant-loop-end l = list_any (λ (e : PlanEnd). is_arc_at e.target l.target) (drop l.end-index l.ends) ≡ list_any (λ (e : PlanEnd). is_arc_at e.target l.target) l.ends
