use Rattle.edi_rank.proofs.ArrangedRises.{arranged_in_order}
use Rattle.edi_rank.proofs.laws.arranged_is_in_order.Goals as goal

pub returns : goal.returns
returns c = arranged_in_order
