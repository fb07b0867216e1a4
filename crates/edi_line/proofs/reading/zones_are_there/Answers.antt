use Rattle.edi_line.proofs.ZonesThere.{file_has_zones}
use Rattle.edi_line.proofs.reading.zones_are_there.Goals as goal

pub returns : goal.returns
returns c = file_has_zones
