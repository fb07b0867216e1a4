use Rattle.edi_record.proofs.ReadRecords.{sheet_read}
use Rattle.edi_record.proofs.reading.read_sheets_are_printable.Goals as goal

pub returns : goal.returns
returns c = sheet_read
