use Rattle.edi_deliveries.proofs.Lines.{found_more}
use Rattle.edi_deliveries.proofs.said.found_names.Goals as goal

pub loop-lot-preserved : goal.loop-lot-preserved
loop-lot-preserved c =
    found_more c.args.names.now c.args.lots.now c.loop-lot.lot-index c.lot-item.result _ _ c.loop-lot-test.true c.lot-item.is c.loop-lot.invariant c.in_ok-push_found.ensures
