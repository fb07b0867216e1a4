use Rattle.std.proofs.Common.{subst, sym}
use Rattle.edi_plan.specs.Plans.{PlanData, IsPlace}
use Rattle.edi_objects.proofs.Placed.{end_there}
use Rattle.edi_objects.proofs.elements.SheetNamer.push_others.Goals as goal

pub push_other-requires-clause-other : goal.push_other-requires-clause-other
push_other-requires-clause-other c =
    let plan = c.plan-plan.result.now in
    let is = c.plan-plan.ensures in
    subst (λ (p : PlanData). IsPlace p c.end-item.result.target) is
    (end_there plan c.keeps.ensures.whole c.args.link (subst (λ (p : PlanData). IsPlace p c.args.link) (sym is) c.requires.link) c.ends-ends.result.now c.first_few-end-items.result.now 4 c.loop-end.end-index c.end-item.result
    c.ends-ends.ensures c.first_few-end-items.ensures c.loop-end-test.true c.end-item.is)
