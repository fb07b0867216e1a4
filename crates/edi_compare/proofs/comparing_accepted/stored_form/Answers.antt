use Rattle.std.proofs.Common.{◌∙◌, subst}
use Rattle.edi_plan.specs.Plans.{PlanData}
use Rattle.edi_compare.specs.Counterparts.{IsNumbered}
use Rattle.edi_compare.proofs.comparing_accepted.stored_form.Goals as goal

pub returns : goal.returns
returns c = record {
  labels = c.in_ok-form.form.labels;
  plan_form = c.in_ok-form.ensures;
  records = subst (λ (p : PlanData). IsNumbered p c.in_ok-form.form.labels c.in_ok-records.records) (c.plan.ensures.plan ∙ c.sound.ensures) c.in_ok-records.ensures;
}
