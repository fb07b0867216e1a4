use Rattle.std.proofs.Common.{List, ℕ, subst}
use Rattle.edi_shown.specs.Shown.{shown_bytes}
use Rattle.edi_answers.specs.Notes.{IsNoteOn}
use Rattle.edi_answers.specs.Paths.{input_name}
use Rattle.edi_answers.proofs.classes.read_classes.Goals as goal

pub returns-in-Ok-clause-note : goal.returns-in-Ok-clause-note
returns-in-Ok-clause-note g c =
    subst (λ (x : List ℕ). IsNoteOn c.args.kinds.now x (shown_bytes (input_name c.args.path.now)) c.in-Ok.text.items) c.deref.ensures.value c.in-Ok.ensures
