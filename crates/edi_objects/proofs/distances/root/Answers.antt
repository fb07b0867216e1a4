use Rattle.edi_objects.proofs.Roots.{root_is}
use Rattle.edi_objects.proofs.distances.root.Goals as goal

pub returns : goal.returns
returns c = root_is c.args.number c.isqrt.result c.isqrt.ensures.square_le c.isqrt.ensures.next_square_gt
