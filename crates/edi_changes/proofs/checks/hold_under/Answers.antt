use Rattle.std.proofs.Common.{inl, refl, subst, arith}
use Rattle.edi_answers.specs.Effects.{effects, written}
use Rattle.edi_answers.specs.Notes.{WritesNoteIfAny}
use Rattle.edi_answers.specs.Replies.{SaysLines}
use Rattle.edi_answers.proofs.Answering.{appends_nothing}
use Rattle.edi_answers.proofs.Replies.{behind}
use Rattle.edi_changes.specs.Checks.{AreLinesHeld}
use Rattle.edi_changes.proofs.checks.hold_under.Goals as goal

pub returns-in-Ok-clause-answer : goal.returns-in-Ok-clause-answer
returns-in-Ok-clause-answer g c =
    let run = effects g.F.Folder g.F.Reader.ByteIn g.F.Sink.ByteOut g.F.NewFile.ByteOut c.args.folder.now c.args.folder.now in
    let note = c.in-Ok.loaded.note.items in
    let o = g.O.ByteOut.contents c.args.out.now in
    let first = written g.E.ByteOut c.args.err.now c.say.new.err in
    inl (
      c.in-Ok.loaded.schema,
      note,
      c.in-Ok.ensures.ok,
      behind (SaysLines note 0) (AreLinesHeld run c.in-Ok.loaded.schema c.args.lines.now) o o (g.O.ByteOut.contents c.hold_each.new.out)
          (g.E.ByteOut.contents c.args.err.now) (g.E.ByteOut.contents c.say.new.err) (g.E.ByteOut.contents c.hold_each.new.err)
          (g.O.ByteOut.has_failed c.args.out.now) (g.O.ByteOut.has_failed c.hold_each.new.out) (g.E.ByteOut.has_failed c.say.new.err) (g.E.ByteOut.has_failed c.hold_each.new.err)
          0 c.hold_each.result c.hold_each.result (appends_nothing o, inl (refl, subst (WritesNoteIfAny first) c.deref.ensures.value c.say.ensures.text)) c.hold_each.ensures.answer
          c.hold_each.ensures.out_stays c.hold_each.ensures.err_stays (omega arith),
    )
