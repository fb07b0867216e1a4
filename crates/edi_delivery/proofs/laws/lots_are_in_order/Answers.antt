use Rattle.edi_delivery.proofs.FiledOrder.{in_order}
use Rattle.edi_delivery.proofs.laws.lots_are_in_order.Goals as goal

pub returns : goal.returns
returns c = in_order
