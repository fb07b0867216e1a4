use Rattle.edi_rank.proofs.ObjectsPreserved.{objects_preserved}
use Rattle.edi_rank.proofs.laws.objects_are_preserved.Goals as goal

pub returns : goal.returns
returns c = objects_preserved
