use Rattle.std.proofs.Common.{length, ap, arith}
use Rattle.edi_record.proofs.InBlocks.{joined_long}
use Rattle.edi_record.proofs.blocks.Blocks.len.Goals as goal

pub returns-clause-len : goal.returns-clause-len
returns-clause-len g c =
    let closed = c.self.inside.closed in
    let long = joined_long closed.items c.self.inside.last c.self.invariant in
    omega (arith, long, ap length c.self.view_is, c.len.ensures, c.len-2.ensures, closed.ok.0)
