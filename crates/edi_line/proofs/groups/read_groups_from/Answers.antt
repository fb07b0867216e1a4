use Rattle.std.proofs.Common.{◌∙◌, sym, ap, subst, OnOk}
use Rattle.edi_line.specs.FileBytes.{file_bytes}
use Rattle.edi_line.specs.LineRules.{BreaksLineRule}
use Rattle.edi_line.specs.Refusal.{IsUnbroken}
use Rattle.edi_line.proofs.groups.read_groups_from.Goals as goal

pub returns-in-Whole-clause-sound : goal.returns-in-Whole-clause-sound
returns-in-Whole-clause-sound g c = subst (λ b. OnOk c.read_groups.result (IsUnbroken (BreaksLineRule b))) (c.as_slice.ensures.value ∙ sym (ap file_bytes c.in-Whole.is)) c.read_groups.ensures.sound

pub returns-in-InPieces-clause-sound : goal.returns-in-InPieces-clause-sound
returns-in-InPieces-clause-sound g c = subst (λ b. OnOk c.read_groups_of_pieces.result (IsUnbroken (BreaksLineRule b))) (sym (ap file_bytes c.in-InPieces.is)) c.read_groups_of_pieces.ensures.sound
