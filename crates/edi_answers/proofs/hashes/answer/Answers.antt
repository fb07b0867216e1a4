use Rattle.std.proofs.Common.{◌≡◌, ◌∙◌, ℕ, List, [], inl, inr, refl, sym, subst, codes, take}
use Rattle.std.specs.Io.KnownBytes.{Appends}
use Rattle.edi_files.specs.Reasons.{ended}
use Rattle.edi_answers.specs.Hashes.{answer_text}
use Rattle.edi_answers.specs.inner.Hashes.{IsAnswerText}
use Rattle.edi_answers.proofs.Answering.{appends_nothing}
use Rattle.edi_answers.proofs.hashes.answer.Goals as goal

pub returns-in-Ok-put_unless_empty-clause-ok : goal.returns-in-Ok-put_unless_empty-clause-ok
returns-in-Ok-put_unless_empty-clause-ok g c =
    let said = subst (λ (name : List ℕ). IsAnswerText c.args.form name c.digest_of-answer.result c.in-Ok.text.items) c.as_bytes.ensures.value c.in-Ok.ensures in
    let told = c.tell_answer.ensures.contents in (
      record { out = answer_text c.args.form c.args.path.now c.digest_of-answer.result; err = told.0; status = c.tell_answer.result },
      inl (c.digest_of-answer.result, c.digest_of-answer.ensures, refl, said.1, told.1),
      refl,
      subst (Appends (g.O.ByteOut.contents c.args.out.now) (g.O.ByteOut.contents c.put_unless_empty.new.out)) (c.deref.ensures.value ∙ said.0) c.in-Ok-put_unless_empty.ensures.ok,
      told.2,
    )

pub returns-in_default-clause-ok : goal.returns-in_default-clause-ok
returns-in_default-clause-ok g c = (
  record { out = []; err = ended (codes "out of memory"); status = 5 },
  inr (c.digest_of-answer.result, c.digest_of-answer.ensures, refl),
  sym c.out_of_memory.ensures.status,
  appends_nothing (g.O.ByteOut.contents c.args.out.now),
  c.out_of_memory.ensures.text,
)

pub returns-clause-err : goal.returns-clause-err
returns-clause-err g c =
    let said = subst (λ (name : List ℕ). IsAnswerText c.args.form name c.digest_of-answer.result c.in-Ok.text.items) c.as_bytes.ensures.value c.in-Ok.ensures in
    let line : c.deref.result.now ≡ answer_text c.args.form c.args.path.now c.digest_of-answer.result = c.deref.ensures.value ∙ said.0 in (
      (
        c.digest_of-answer.result,
        c.digest_of-answer.ensures,
        λ none. c.in-Err.ensures.some (line ∙ none),
        c.in-Err.ensures.failed,
        (
          c.in-Err.written.count,
          subst (λ (text : List ℕ). Appends (g.O.ByteOut.contents c.args.out.now) (g.O.ByteOut.contents c.put_unless_empty.new.out) (take c.in-Err.written.count text)) line c.in-Err.ensures.err,
        ),
      ),
      refl,
    )
