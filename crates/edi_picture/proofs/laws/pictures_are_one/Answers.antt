use Rattle.edi_picture.proofs.OnePicture.{one_picture}
use Rattle.edi_picture.proofs.laws.pictures_are_one.Goals as goal

pub returns : goal.returns
returns c = one_picture
