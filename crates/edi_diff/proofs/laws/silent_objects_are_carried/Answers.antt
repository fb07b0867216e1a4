use Rattle.edi_diff.proofs.Reached.{silent_carried}
use Rattle.edi_diff.proofs.laws.silent_objects_are_carried.Goals as goal

pub returns : goal.returns
returns c = silent_carried
