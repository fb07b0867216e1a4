use Rattle.edi_diff.proofs.Carried.{hidden_by_none}
use Rattle.edi_diff.proofs.laws.text_hides_nothing.Goals as goal

pub returns : goal.returns
returns c = hidden_by_none
