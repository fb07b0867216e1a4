use Rattle.edi_write.proofs.WrittenPrinted.{record_printable, written_printable}
use Rattle.edi_write.proofs.laws.written_is_printable.Goals as goal

pub returns-clause-each : goal.returns-clause-each
returns-clause-each c = record_printable

pub returns-clause-sheet : goal.returns-clause-sheet
returns-clause-sheet c = written_printable
