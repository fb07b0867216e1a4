use Rattle.std.proofs.Common.{◌∙◌, ap, subst, sym}
use Rattle.edi_plan.specs.Plans.{PlanData, IsPlace}
use Rattle.edi_report.specs.declared.sheet.LocatedSheet.{LocatedSheet}
use Rattle.edi_objects.proofs.Placed.{end_there}
use Rattle.edi_objects.proofs.account.ObjectReporter.push_few_outlines.Goals as goal

pub push_outline-requires : goal.push_outline-requires
push_outline-requires c =
    let plan = c.plan-plan.result.now in
    let is = c.plan-plan.ensures ∙ ap (λ (s : LocatedSheet). s.accepted) c.first.ensures.sheet in
    subst (λ (p : PlanData). IsPlace p c.end-item.result.target) is
    (end_there plan c.keeps.ensures.whole c.args.link (subst (λ (p : PlanData). IsPlace p c.args.link) (sym is) c.requires) c.ends-ends.result.now c.first_few-end-items.result.now 4 c.loop-end.end-index c.end-item.result
    c.ends-ends.ensures c.first_few-end-items.ensures c.loop-end-test.true c.end-item.is)
