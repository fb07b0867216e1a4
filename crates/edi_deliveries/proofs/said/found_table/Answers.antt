use Rattle.edi_deliveries.proofs.Among.{put_more}
use Rattle.edi_deliveries.proofs.said.found_table.Goals as goal

pub loop-name-preserved : goal.loop-name-preserved
loop-name-preserved c =
    put_more c.deref-name-items.result.now c.loop-name.table.keys c.insert.new.self.keys c.loop-name.name-index _ c.loop-name-test.true c.in_ok-insert.ensures.keys c.loop-name.invariant
