use Rattle.edi_pairing.proofs.WrongLemmas.{reasons_are_one}
use Rattle.edi_pairing.proofs.laws.wrong_lines_have_one_reason.Goals as goal

pub returns : goal.returns
returns c = reasons_are_one
