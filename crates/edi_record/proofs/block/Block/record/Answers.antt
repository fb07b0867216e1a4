use Rattle.std.proofs.Common.{◌∙◌, length, sym, ap, arith}
use Rattle.std.specs.List.{slice_get}
use Rattle.edi_record.specs.inner.FlatRecords.{no_stops}
use Rattle.edi_record.specs.inner.PartLists.{held}
use Rattle.edi_record.proofs.FlatRecords.{records_long}
use Rattle.edi_record.proofs.block.Block.record.Goals as goal

pub record_at-requires-clause-there : goal.record_at-requires-clause-there
record_at-requires-clause-there g c =
    let long = records_long (held c.self.inside.lists) no_stops c.self.inside.heads.items in
    omega (arith, c.requires, ap length c.self.view_is, long)

pub returns : goal.returns
returns g c = ap (λ es. slice_get es c.args.place) (sym c.self.view_is) ∙ c.record_at.ensures
