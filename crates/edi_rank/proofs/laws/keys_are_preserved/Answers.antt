use Rattle.edi_rank.proofs.Preserved.{node_key_preserved}
use Rattle.edi_rank.proofs.KeysCarried.{arc_carried, face_carried, object_carried}
use Rattle.edi_rank.proofs.laws.keys_are_preserved.Goals as goal

pub returns-clause-nodes : goal.returns-clause-nodes
returns-clause-nodes c = node_key_preserved

pub returns-clause-arcs : goal.returns-clause-arcs
returns-clause-arcs c = arc_carried

pub returns-clause-faces : goal.returns-clause-faces
returns-clause-faces c = face_carried

pub returns-clause-objects : goal.returns-clause-objects
returns-clause-objects c = object_carried
