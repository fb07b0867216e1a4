use Rattle.std.proofs.Common.{length, ap, arith}
use Rattle.edi_record.specs.inner.FlatRecords.{no_stops}
use Rattle.edi_record.specs.inner.PartLists.{held}
use Rattle.edi_record.proofs.FlatRecords.{records_long}
use Rattle.edi_record.proofs.block.Block.len.Goals as goal

pub returns : goal.returns
returns g c =
    let long = records_long (held c.self.inside.lists) no_stops c.self.inside.heads.items in
    omega (arith, long, ap length c.self.view_is, c.len.ensures, c.self.inside.heads.ok.0)
