use Rattle.std.proofs.Common.{◌∙◌, Some, sym, ap, subst}
use Rattle.edi_record.specs.AnyRecords.{AnyRecord}
use Rattle.edi_record.specs.declared.part_lists.Stops.{Stops}
use Rattle.edi_record.specs.inner.FlatRecords.{no_stops, parts_between, ArePartsTo}
use Rattle.edi_record.specs.inner.PartLists.{held}
use Rattle.edi_record.proofs.FlatRecords.{parts_there, record_there}
use Rattle.edi_record.proofs.block.record_at.Goals as goal

pub record-requires : goal.record-requires
record-requires g c =
    let all = held c.args.lists.now in
    let h = c.index-head.result.now in
    subst (λ (s : Stops). ArePartsTo all s h.stops) (sym c.begin.ensures)
    (parts_there all no_stops c.args.heads.now.items c.args.place h c.requires.there c.index-head.ensures
    c.requires.fill)

pub returns : goal.returns
returns g c =
    let all = held c.args.lists.now in
    let h = c.index-head.result.now in
    record_there all no_stops c.args.heads.now.items c.args.place h c.requires.there c.index-head.ensures
    ∙ (ap (λ (s : Stops). Some (record { head = h.head; parts = parts_between all s h.stops })) (sym c.begin.ensures)
    ∙ ap (λ (e : AnyRecord _ _ _). Some e) (sym c.record.ensures))
