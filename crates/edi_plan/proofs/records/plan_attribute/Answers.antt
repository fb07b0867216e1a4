use Rattle.std.proofs.Common.{◌∙◌, sym, ap, unwrap_or, false}
use Rattle.edi_plan.proofs.Built.{number_at_place, value_stated}
use Rattle.edi_plan.proofs.records.plan_attribute.Goals as goal

pub returns-clause-ok : goal.returns-clause-ok
returns-clause-ok c =
    let s = c.args.schema.now in
    let a = c.args.attribute.now in
    let class = c.in-Some.ensures.class.1 in
    let number = ap (λ o. unwrap_or o false) c.is_number.ensures ∙ sym (number_at_place s a.atp c.in-Some.class class) in
    record {
      type = c.in-Some.ensures.class.0;
      states = record { class = class; set = c.in_ok-copy_if_any.ensures; value = value_stated s a.atp c.is_number.result a.atv c.in_ok-value_of.field-0 number c.in_ok-value_of.ensures };
    }
