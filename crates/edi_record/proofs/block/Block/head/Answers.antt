use Rattle.std.proofs.Common.{◌∙◌, ◌<◌, length, sym, ap, arith}
use Rattle.std.specs.List.{slice_get}
use Rattle.edi_record.specs.inner.FlatRecords.{no_stops, parts_between, stops_before}
use Rattle.edi_record.specs.inner.PartLists.{held}
use Rattle.edi_record.proofs.FlatRecords.{records_long, record_there}
use Rattle.edi_record.proofs.block.Block.head.Goals as goal

pub index-requires : goal.index-requires
index-requires g c =
    let long = records_long (held c.self.inside.lists) no_stops c.self.inside.heads.items in
    omega (arith, c.requires, ap length c.self.view_is, long, c.self.inside.heads.ok.0)

pub returns : goal.returns
returns g c =
    let all = held c.self.inside.lists in
    let heads = c.self.inside.heads.items in
    let h = c.index.result.now in
    let there : c.args.place < length heads =
    omega (arith, c.requires, ap length c.self.view_is, records_long all no_stops heads)
    in (
      parts_between all (stops_before c.args.place no_stops heads) h.stops,
      ap (λ es. slice_get es c.args.place) (sym c.self.view_is) ∙ record_there all no_stops heads c.args.place h there c.index.ensures,
    )
