use Rattle.edi_delivery.proofs.delivery.Delivery.read.Goals as goal
use Rattle.edi_delivery.proofs.Whole.{delivery_of}

pub returns-clause-delivery : goal.returns-clause-delivery
returns-clause-delivery c =
    delivery_of c.args.bytes.now c.in_ok-zones.zones.items c.deref.result.now c.in_ok-lots.lots.items c.from_vec.result c.deref.ensures.value c.from_vec.ensures
    c.in_ok-zones.ensures.zones c.in_ok-zones.ensures.sound c.in_ok-lots.ensures.sound c.in_ok-lots.ensures.states
