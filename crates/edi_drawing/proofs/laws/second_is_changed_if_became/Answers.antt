use Rattle.edi_drawing.proofs.Coloured.{changed}
use Rattle.edi_drawing.proofs.laws.second_is_changed_if_became.Goals as goal

pub returns : goal.returns
returns c = changed
