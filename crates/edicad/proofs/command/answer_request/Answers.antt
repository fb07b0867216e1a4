use Rattle.std.proofs.Common.{List, ℕ, subst}
use Rattle.edi_answers.specs.Effects.{inputs, written}
use Rattle.edi_answers.specs.Notes.{WritesNoteIfAny}
use Rattle.edicad.proofs.Noted.{note_left}
use Rattle.edicad.proofs.command.answer_request.Goals as goal

pub returns-clause-answer : goal.returns-clause-answer
returns-clause-answer g c =
    let inputs = inputs g.F.Folder g.F.Reader.ByteIn c.args.folder.now in
    let note = c.reply-status.new.note.items in
    let between = c.reply-status.new.err in (
      note,
      note_left inputs c.args.request c.reply-status.result c.new-note.result.items note c.new-note.ensures.items c.reply-status.ensures.note,
      (
        g.E.ByteOut.contents between,
        g.E.ByteOut.has_failed between,
        c.say.ensures.stays,
        c.reply-status.ensures.answer,
        subst (λ (n : List ℕ). WritesNoteIfAny (written g.E.ByteOut between c.say.new.err) n) c.deref.ensures.value c.say.ensures.text,
      ),
    )
