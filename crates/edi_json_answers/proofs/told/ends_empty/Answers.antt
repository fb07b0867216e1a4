use Rattle.std.proofs.Common.{◌∙◌, sym}
use Rattle.edi_json_answers.proofs.Pieces.{at_end}
use Rattle.edi_json_answers.proofs.told.ends_empty.Goals as goal

pub returns-in-Some : goal.returns-in-Some
returns-in-Some c = c.is_empty.ensures ∙ sym (at_end c.args.pieces.now c.in-Some.piece.now (sym c.in-Some.ensures.value))
