use Rattle.edi_write.proofs.KindNames.{kinds_printable}
use Rattle.edi_write.proofs.laws.kinds_can_be_printed.Goals as goal

pub returns : goal.returns
returns c = kinds_printable
