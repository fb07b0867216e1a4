use Rattle.std.proofs.Common.{inl, inr, subst}
use Rattle.edi_answers.specs.Effects.{effects, written}
use Rattle.edi_answers.specs.Hashes.{TellsFault}
use Rattle.edi_answers.specs.Notes.{WritesNoteIfAny}
use Rattle.edi_answers.proofs.Answering.{appends_nothing}
use Rattle.edi_answers.proofs.hashes.hash.Goals as goal

pub returns-in-Ok-clause-answer : goal.returns-in-Ok-clause-answer
returns-in-Ok-clause-answer g c =
    let first = written g.E.ByteOut c.args.err.now c.say.new.err in
    inl (
      c.in-Ok.loaded.schema,
      c.in-Ok.loaded.note.items,
      c.in-Ok.ensures.ok,
      (
        g.E.ByteOut.contents c.say.new.err,
        g.E.ByteOut.has_failed c.say.new.err,
        c.answer_under.ensures.stays,
        subst (WritesNoteIfAny first) c.deref.ensures.value c.say.ensures.text,
        c.answer_under.ensures.answer,
      ),
    )

pub returns-in-Err-clause-answer : goal.returns-in-Err-clause-answer
returns-in-Err-clause-answer g c =
    let run = effects g.F.Folder g.F.Reader.ByteIn g.F.Sink.ByteOut g.F.NewFile.ByteOut c.args.folder.now c.args.folder.now in
    let err = written g.E.ByteOut c.args.err.now c.tell_fault.new.err in
    inr (
      c.in-Err.fault,
      c.in-Err.ensures.err,
      subst (λ path. TellsFault run.why err c.in-Err.fault path c.tell_fault.result) c.path_of_schema.ensures c.tell_fault.ensures.contents,
      appends_nothing (g.O.ByteOut.contents c.args.out.now),
    )
