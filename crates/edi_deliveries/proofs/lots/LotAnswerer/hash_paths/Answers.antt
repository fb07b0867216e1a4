use Rattle.std.proofs.Common.{◌≡◌, ◌∙◌, ℕ, List, Bor, false, inl, ap, map, string_bytes, subst, take}
use Rattle.edi_answers.specs.Effects.{effects, written}
use Rattle.edi_answers.specs.declared.form.AnswerForm.TheVariants.{Words}
use Rattle.edi_answers.specs.Hashes.{IsHashStatus}
use Rattle.edi_words.specs.declared.words.ManyFiles.{ManyFiles}
use Rattle.edi_deliveries.specs.Deliveries.{most_siblings, siblings_of}
use Rattle.edi_deliveries.proofs.lots.LotAnswerer.hash_paths.Goals as goal

pub returns-clause-answer : goal.returns-clause-answer
returns-clause-answer g c =
    let files : ManyFiles = record { scd = c.as_str.result; dic = c.as_str-2.result; sheets = c.in-Ok.sheets } in
    let run = effects g.F.Folder g.F.Reader.ByteIn g.F.Sink.ByteOut g.F.NewFile.ByteOut c.args.self.now.folder.now c.args.self.now.folder.now in
    let out = written g.O.ByteOut c.args.out.now c.hash.new.out in
    let err = written g.E.ByteOut c.args.err.now c.hash.new.err in
    let siblings : map (λ (p : Bor (List ℕ)). p.now) c.first_of-siblings.result.now ≡ siblings_of files =
    ap (map (λ (p : Bor (List ℕ)). p.now)) (c.first_of-siblings.ensures ∙ ap (take most_siblings) c.deref-2.ensures.value) in
    inl (
      files,
      record { scd = c.as_str.ensures.value; dic = c.as_str-2.ensures.value; sheets = c.in-Ok.ensures ∙ ap (map string_bytes) c.deref.ensures.value },
      subst (λ (kin : List (List ℕ)). IsHashStatus run out err c.args.self.now.kinds.now files Words false kin c.hash.result) siblings c.hash.ensures.answer,
    )
