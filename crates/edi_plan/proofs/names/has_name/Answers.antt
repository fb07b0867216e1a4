use Rattle.std.proofs.Common.{◌∙◌, ◌<◌, sym, ap, subst}
use Rattle.edi_record.specs.Shapes.{stated_at}
use Rattle.edi_plan.specs.inner.Hints.{is_named}
use Rattle.edi_plan.specs.inner.Names.{name_lent}
use Rattle.edi_record.proofs.StatedAt.{stated_there}
use Rattle.edi_schema.proofs.Names.{same_name}
use Rattle.edi_schema.specs.Classes.{is_name}
use Rattle.edi_plan.proofs.NameLemmas.{name_apart}
use Rattle.edi_plan.proofs.names.has_name.Goals as goal

pub returns-then-place-len-clause-has : goal.returns-then-place-len-clause-has
returns-then-place-len-clause-has c = λ same.
    let records = c.args.records.now in
    let alike = same_name (name_lent c.name_at.result) (name_lent c.args.name.now) (sym (name_apart c.name_at.result c.args.name.now) ∙ (sym c.eq.ensures ∙ same)) in
    record { there = stated_at records c.args.place; here = stated_there records c.args.place (subst (λ n. c.args.place < n) c.len.ensures.len c.if-place-len.true); is = sym c.name_at.ensures ∙ alike }

pub returns-then-place-len-clause-is : goal.returns-then-place-len-clause-is
returns-then-place-len-clause-is c =
    let records = c.args.records.now in
    let name = name_lent c.args.name.now in
    let here = stated_there records c.args.place (subst (λ n. c.args.place < n) c.len.ensures.len c.if-place-len.true) in
    c.eq.ensures ∙ (name_apart c.name_at.result c.args.name.now ∙ (ap (λ n. is_name n name) c.name_at.ensures ∙ ap (is_named name) (sym here)))
