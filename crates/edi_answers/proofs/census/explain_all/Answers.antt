use Rattle.std.proofs.Common.{inl, inr, subst, Bor, List, ℕ, map}
use Rattle.edi_answers.specs.Census.{AnswersCensus}
use Rattle.edi_answers.specs.Effects.{effects, written}
use Rattle.edi_answers.specs.Hashes.{TellsFault}
use Rattle.edi_answers.specs.Notes.{WritesNoteIfAny}
use Rattle.edi_answers.proofs.Answering.{appends_nothing, over}
use Rattle.edi_answers.proofs.census.explain_all.Goals as goal

pub returns-in-Ok-clause-answer : goal.returns-in-Ok-clause-answer
returns-in-Ok-clause-answer g c =
    let run = effects g.F.Folder g.F.Reader.ByteIn g.F.Sink.ByteOut g.F.NewFile.ByteOut c.args.folder.now c.args.folder.now in
    let first = written g.E.ByteOut c.args.err.now c.say.new.err in
    let out = written g.O.ByteOut c.args.out.now c.count_under.new.out in
    let rest = over (g.E.ByteOut.contents c.say.new.err) (g.E.ByteOut.contents c.count_under.new.err) (g.E.ByteOut.has_failed c.count_under.new.err) in
    inl (
      c.in-Ok.loaded.schema,
      c.in-Ok.loaded.note.items,
      c.in-Ok.ensures.ok,
      (
        g.E.ByteOut.contents c.say.new.err,
        g.E.ByteOut.has_failed c.say.new.err,
        c.count_under.ensures.stays,
        subst (WritesNoteIfAny first) c.deref.ensures.value c.say.ensures.text,
        subst (λ (sheets : List (Bor (List ℕ))). AnswersCensus run.inputs run.why c.in-Ok.loaded.schema c.args.form out rest (map (λ (p : Bor (List ℕ)). p.now) sheets) c.count_under.result)
            c.deref-in-Ok.ensures.value c.count_under.ensures.answer,
      ),
    )

pub returns-in-Err-clause-answer : goal.returns-in-Err-clause-answer
returns-in-Err-clause-answer g c =
    let run = effects g.F.Folder g.F.Reader.ByteIn g.F.Sink.ByteOut g.F.NewFile.ByteOut c.args.folder.now c.args.folder.now in
    let err = written g.E.ByteOut c.args.err.now c.tell_fault.new.err in
    inr (
      c.in-Err.fault,
      c.in-Err.ensures.err,
      subst (λ path. TellsFault run.why err c.in-Err.fault path c.tell_fault.result) c.path_of_schema.ensures c.tell_fault.ensures.contents,
      appends_nothing (g.O.ByteOut.contents c.args.out.now),
    )
