use Rattle.edi_picture.proofs.Beside.{said, tested}
use Rattle.edi_picture.proofs.laws.beside_is_side.Goals as goal

pub returns : goal.returns
returns c = λ p role a k there proper. (said p role a k there proper, tested p role a k)
