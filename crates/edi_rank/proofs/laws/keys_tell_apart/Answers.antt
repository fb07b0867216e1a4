use Rattle.edi_rank.proofs.FacesApart.{one_face}
use Rattle.edi_rank.proofs.KeysApart.{one_node, one_arc, one_object}
use Rattle.edi_rank.proofs.laws.keys_tell_apart.Goals as goal

pub returns-clause-nodes : goal.returns-clause-nodes
returns-clause-nodes c = one_node

pub returns-clause-arcs : goal.returns-clause-arcs
returns-clause-arcs c = one_arc

pub returns-clause-faces : goal.returns-clause-faces
returns-clause-faces c = λ p whole joined bounded number arcs. one_face p whole joined number arcs bounded

pub returns-clause-objects : goal.returns-clause-objects
returns-clause-objects c = one_object
