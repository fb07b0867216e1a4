use Rattle.std.proofs.Common.{◌↔◌, IfOk, IsPermutation, IsTrue, List, subst, sym}
use Rattle.edi_plan.specs.Plans.{record_at}
use Rattle.edi_plan.specs.declared.record.PlanAttribute.{PlanAttribute}
use Rattle.edi_compare.specs.declared.uncarried.RecordPart.{RecordPart}
use Rattle.edi_compare.specs.inner.Checking.{AgreeAt, PairedPlans}
use Rattle.edi_compare.proofs.carrier.Carrier.agrees_in.Goals as goal

pub returns-in-Attributes : goal.returns-in-Attributes
returns-in-Attributes c =
    let place = c.args.place in
    let target = c.args.target in
    let result = c.same_attributes.result in
    subst (λ (part : RecordPart). IfOk result (λ answer. IsTrue answer ↔ AgreeAt c.args.self.now place target part)) (sym c.in-Attributes.is)
    (subst (λ (m : PairedPlans). IfOk result (λ answer. IsTrue answer ↔ IsPermutation (record_at m.plan place).attributes (record_at m.other target).attributes)) c.self.view_is
    (subst (λ (xs : List PlanAttribute). IfOk result (λ answer. IsTrue answer ↔ IsPermutation xs (record_at c.self.inside.other.now target).attributes)) c.attributes.ensures
    (subst (λ (ys : List PlanAttribute). IfOk result (λ answer. IsTrue answer ↔ IsPermutation c.attributes.result.now ys)) c.attributes-in-Attributes.ensures c.same_attributes.ensures)))
