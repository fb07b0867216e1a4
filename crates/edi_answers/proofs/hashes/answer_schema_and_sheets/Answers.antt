use Rattle.std.proofs.Common.{◌≡◌, ◌∙◌, ℕ, List, Bor, false, inl, inr, map, subst}
use Rattle.std.specs.Io.KnownBytes.{Appends}
use Rattle.std.proofs.lemmas.Bool.{false≢true}
use Rattle.edi_answers.specs.Effects.{inputs, written}
use Rattle.edi_answers.specs.Hashes.{AnswersAll, schema_line_in}
use Rattle.edi_answers.specs.Statuses.{PrintsFirst}
use Rattle.edi_answers.specs.inner.Hashes.{IsSchemaText}
use Rattle.edi_answers.proofs.Answering.{over, paths_of}
use Rattle.edi_answers.proofs.hashes.answer_schema_and_sheets.Goals as goal

pub returns-in-Ok-put_all-clause-answer : goal.returns-in-Ok-put_all-clause-answer
returns-in-Ok-put_all-clause-answer g c =
    let s = c.args.schema.now in
    let form = c.args.form in
    let said = subst (λ (name : List ℕ). IsSchemaText form s name c.in-Ok.line.items) c.as_bytes.ensures.value c.in-Ok.ensures in
    let line : c.deref.result.now ≡ schema_line_in form s c.args.files.now.scd.now = c.deref.ensures.value ∙ said.0 in
    let rest = over (g.O.ByteOut.contents c.put_all.new.writer) (g.O.ByteOut.contents c.answer_all.new.out) (g.O.ByteOut.has_failed c.answer_all.new.out) in
    let err = written g.E.ByteOut c.args.err.now c.answer_all.new.err in
    inl (
      (
        g.O.ByteOut.contents c.put_all.new.writer,
        false,
        λ t. absurd (false≢true t),
        subst (Appends (g.O.ByteOut.contents c.args.out.now) (g.O.ByteOut.contents c.put_all.new.writer)) line c.in-Ok-put_all.ensures.ok,
        subst (λ (sheets : List (Bor (List ℕ))). AnswersAll (inputs g.F.Folder g.F.Reader.ByteIn c.args.folder.now) (g.F.Folder.why c.args.folder.now) s (paths_of c.args.siblings.now) form rest err
            (map (λ (p : Bor (List ℕ)). p.now) sheets) c.answer_all.result) c.deref-in-Ok-put_all.ensures.value c.answer_all.ensures.answer,
      ),
      said.1,
    )

pub returns-clause-answer : goal.returns-clause-answer
returns-clause-answer g c =
    let s = c.args.schema.now in
    let form = c.args.form in
    let said = subst (λ (name : List ℕ). IsSchemaText form s name c.in-Ok.line.items) c.as_bytes.ensures.value c.in-Ok.ensures in
    let line : c.deref.result.now ≡ schema_line_in form s c.args.files.now.scd.now = c.deref.ensures.value ∙ said.0 in
    let out = written g.O.ByteOut c.args.out.now c.put_all.new.writer in
    inr (inl (
      c.in-Err.field-0.count,
      subst (PrintsFirst out c.in-Err.field-0.count) line c.in-Err.ensures.err,
      (c.in-Err.ensures.failed, c.say_unwritten.ensures.text),
      c.say_unwritten.ensures.status,
    ))
