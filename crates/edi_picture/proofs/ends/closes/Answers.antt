use Rattle.std.proofs.Common.{arith}
use Rattle.edi_picture.proofs.Counted.{all_ends, closed}
use Rattle.edi_picture.proofs.ends.closes.Goals as goal

pub returns : goal.returns
returns c =
    closed c.loop-end.odd c.args.ends.now c.is_empty.result c.is_empty.ensures
    (all_ends c.loop-end.odd c.loop-end.end-index c.args.ends.now (omega (arith, c.loop-end-test.false)) c.loop-end.invariant)
