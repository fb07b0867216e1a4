use Rattle.edi_drawing.proofs.Coloured.{grey}
use Rattle.edi_drawing.proofs.laws.first_is_grey_if_unlisted.Goals as goal

pub returns : goal.returns
returns c = grey
