use Rattle.edi_record.proofs.Sound.{sheet_sound}
use Rattle.edi_record.proofs.reading.printed_sheets_are_sound.Goals as goal

pub returns : goal.returns
returns c = sheet_sound
