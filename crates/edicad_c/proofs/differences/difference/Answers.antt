-- What differs is found under the schema, in the form of the number.
use Rattle.std.proofs.Common.{Option, inl, rules, subst}
use Rattle.edi_diff.specs.declared.form.TextForm.{TextForm}
use Rattle.edicad_c.specs.declared.answer.Answer.{Answer}
use Rattle.edicad_c.specs.Differences.{IsDifferenceAnswered, IsDifferenceGiven}
use Rattle.edicad_c.specs.Held.{IsGiven, in_box}
use Rattle.edicad_c.proofs.differences.difference.Goals as goal

pub returns-in-Ok : goal.returns-in-Ok
returns-in-Ok c =
    let g = c.of_bytes in let w = c.in-Ok in
    subst (λ (form : Option TextForm). IsDifferenceAnswered c.args.schema.now c.args.first.now c.args.second.now form (in_box g.result.content) g.result.answer) c.in-Some.ensures
    (inl (
      w.difference,
      w.ensures.first,
      w.ensures.second,
      w.ensures.difference,
      subst (λ (a : Answer). IsGiven a w.difference.text.items (in_box g.result.content) g.result.answer) c.of_difference-answer.ensures g.ensures,
    ))

pub returns-in-Err : goal.returns-in-Err
returns-in-Err c =
    let given = c.nothing-in-Err.result in
    let refused : IsDifferenceGiven c.args.schema.now c.args.first.now c.args.second.now c.in-Some.form (in_box given.content) given.answer = search rules in
    subst (λ (form : Option TextForm). IsDifferenceAnswered c.args.schema.now c.args.first.now c.args.second.now form (in_box given.content) given.answer) c.in-Some.ensures refused
