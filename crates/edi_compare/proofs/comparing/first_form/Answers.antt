use Rattle.std.proofs.Common.{subst}
use Rattle.edi_plan.specs.Plans.{PlanData}
use Rattle.edi_compare.specs.Counterparts.{IsNumbered}
use Rattle.edi_compare.proofs.comparing.first_form.Goals as goal

pub returns : goal.returns
returns c s b has = record {
  labels = c.args.form.labelled.labels;
  plan_form = has.plan_form;
  records = subst (λ (p : PlanData). IsNumbered p c.args.form.labelled.labels c.in_ok-records.records) c.plan.ensures.plan c.in_ok-records.ensures;
}
