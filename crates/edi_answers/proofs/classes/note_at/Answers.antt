use Rattle.std.proofs.Common.{IfOk, subst, ◌∙◌}
use Rattle.edi_explain.specs.KindClasses.{codes_of}
use Rattle.edi_shown.specs.Shown.{shown_bytes}
use Rattle.edi_answers.specs.Notes.{IsNoteOn}
use Rattle.edi_answers.specs.Paths.{input_name}
use Rattle.edi_answers.proofs.classes.note_at.Goals as goal

-- src/classes.rt:83:1
pub returns : goal.returns
returns c =
    let named = subst (λ n. IfOk c.note_of.result (λ note. IsNoteOn (codes_of c.codes.result.now) c.args.classes.now n note.items))
    (c.deref.ensures.value ∙ c.in_ok-name.ensures) c.note_of.ensures in
    subst (λ k. IfOk c.note_of.result (λ note. IsNoteOn k c.args.classes.now (shown_bytes (input_name c.args.path.now)) note.items))
    c.codes.ensures named
