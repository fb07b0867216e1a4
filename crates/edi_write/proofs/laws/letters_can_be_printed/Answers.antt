use Rattle.edi_write.proofs.WrittenPrinted.{letters_printable}
use Rattle.edi_write.proofs.laws.letters_can_be_printed.Goals as goal

pub returns : goal.returns
returns c = letters_printable
