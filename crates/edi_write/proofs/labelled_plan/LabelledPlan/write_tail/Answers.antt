use Rattle.std.proofs.Common.{sym, subst}
use Rattle.std.specs.List.{AllByRecursion}
use Rattle.edi_plan.specs.Agreeing.{AttributeAgrees}
use Rattle.edi_plan.specs.Plans.{IsPlace}
use Rattle.edi_rank.proofs.SameLaws.{record_agrees}
use Rattle.edi_write.specs.inner.LabelledPlans.{LabelledPlanData}
use Rattle.edi_write.proofs.labelled_plan.LabelledPlan.write_tail.Goals as goal

pub write_in_order-requires : goal.write_in_order-requires
write_in_order-requires c =
    let s = c.self.inside.schema.now in
    let p = c.self.inside.plan.now in
    let there : IsPlace p c.args.place =
    subst (λ (l : LabelledPlanData). IsPlace l.plan c.args.place) (sym c.self.view_is) c.requires in
    subst (AllByRecursion (AttributeAgrees s)) (sym c.attributes-attributes.ensures)
    (record_agrees s p.list c.self.invariant.agrees c.args.place there).attributes
