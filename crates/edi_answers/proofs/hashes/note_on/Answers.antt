use Rattle.std.proofs.Common.{◌∙◌, List, ℕ, ap, subst}
use Rattle.std.proofs.lemmas.Result.{IfOk-weaker}
use Rattle.edi_schema.specs.Roles.{KindCodes}
use Rattle.edi_answers.specs.Hashes.{escaped_name}
use Rattle.edi_answers.specs.Notes.{IsNoteOn}
use Rattle.edi_answers.proofs.hashes.note_on.Goals as goal

pub returns : goal.returns
returns c =
    IfOk-weaker c.note_of.result _ _ (λ note h.
    subst (λ (n : List ℕ). IsNoteOn c.args.kinds.now c.args.scd.now n note.items) (c.deref.ensures.value ∙ (c.in_ok-name.ensures ∙ ap escaped_name c.as_bytes.ensures.value))
    (subst (λ (k : KindCodes). IsNoteOn k c.args.scd.now c.deref.result.now note.items) c.codes.ensures h)) c.note_of.ensures
