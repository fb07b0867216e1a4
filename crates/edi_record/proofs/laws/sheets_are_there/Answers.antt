use Rattle.edi_record.proofs.SheetsThere.{sheet_there}
use Rattle.edi_record.proofs.laws.sheets_are_there.Goals as goal

pub returns : goal.returns
returns c = sheet_there
