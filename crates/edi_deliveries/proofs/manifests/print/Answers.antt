use Rattle.std.proofs.Common.{◌∙◌, ℕ, List, inl, inr, refl, subst}
use Rattle.edi_answers.specs.Effects.{written}
use Rattle.edi_answers.specs.Statuses.{Prints, PrintsFirst}
use Rattle.edi_answers.proofs.Answering.{appends_nothing}
use Rattle.edi_deliveries.proofs.manifests.print.Goals as goal

pub returns-in-Ok-put_all-clause-answer : goal.returns-in-Ok-put_all-clause-answer
returns-in-Ok-put_all-clause-answer g c =
    let out = written g.O.ByteOut c.args.out.now c.put_all.new.writer in
    inl ((subst (Prints out) (c.deref.ensures.value ∙ c.in-Ok.ensures) c.in-Ok-put_all.ensures.ok, appends_nothing (g.E.ByteOut.contents c.args.err.now)), refl)

pub returns-clause-answer : goal.returns-clause-answer
returns-clause-answer g c =
    let out = written g.O.ByteOut c.args.out.now c.put_all.new.writer in
    inr (inl (
      c.in-Err.field-0.count,
      subst (λ (text : List ℕ). PrintsFirst out c.in-Err.field-0.count text) (c.deref.ensures.value ∙ c.in-Ok.ensures) c.in-Err.ensures.err,
      (c.in-Err.ensures.failed, c.say_unwritten.ensures.text),
      c.say_unwritten.ensures.status,
    ))
