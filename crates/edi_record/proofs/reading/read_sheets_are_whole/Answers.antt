use Rattle.edi_record.proofs.WholeSheets.{whole_sheet}
use Rattle.edi_record.proofs.reading.read_sheets_are_whole.Goals as goal

pub returns : goal.returns
returns c = whole_sheet
