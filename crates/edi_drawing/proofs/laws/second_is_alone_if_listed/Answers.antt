use Rattle.edi_drawing.proofs.Coloured.{alone}
use Rattle.edi_drawing.proofs.laws.second_is_alone_if_listed.Goals as goal

pub returns : goal.returns
returns c = alone
