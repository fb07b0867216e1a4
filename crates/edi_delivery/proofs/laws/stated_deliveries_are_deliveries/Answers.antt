use Rattle.edi_delivery.proofs.SafeLots.{is_delivery}
use Rattle.edi_delivery.proofs.laws.stated_deliveries_are_deliveries.Goals as goal

pub returns : goal.returns
returns c = is_delivery
