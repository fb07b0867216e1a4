use Rattle.edi_compare.proofs.KnownSheetsRefused.{line_refused, count_refused, class_refused, bound_refused, objects_refused}
use Rattle.edi_compare.proofs.known.known_sheets_are_refused.Goals as goal

pub returns-clause-lines : goal.returns-clause-lines
returns-clause-lines c = line_refused

pub returns-clause-records : goal.returns-clause-records
returns-clause-records c = count_refused

pub returns-clause-references : goal.returns-clause-references
returns-clause-references c = class_refused

pub returns-clause-topology : goal.returns-clause-topology
returns-clause-topology c = bound_refused

pub returns-clause-objects : goal.returns-clause-objects
returns-clause-objects c = objects_refused
