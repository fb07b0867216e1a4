use Rattle.edi_record.proofs.Printable.{sheet_printable}
use Rattle.edi_record.proofs.reading.sheets_are_printable.Goals as goal

pub returns : goal.returns
returns c = sheet_printable
