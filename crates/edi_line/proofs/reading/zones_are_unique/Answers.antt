use Rattle.edi_line.proofs.Said.{file_said}
use Rattle.edi_line.proofs.ZonesSaid.{zones_of_one}
use Rattle.edi_line.proofs.reading.zones_are_unique.Goals as goal

pub returns-clause-zones : goal.returns-clause-zones
returns-clause-zones c = zones_of_one

pub returns-clause-groups : goal.returns-clause-groups
returns-clause-groups c = file_said
