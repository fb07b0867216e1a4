use Rattle.std.proofs.Common.{◌≡◌, ◌++◌, ◌∙◌, [], sym, ap}
use Rattle.std.proofs.lemmas.List.{append-nil, nil_from_length}
use Rattle.std.specs.Vec.Iter.{into_iter_items}
use Rattle.edi_line.specs.ZoneData.{entries}
use Rattle.edi_line.proofs.ZoneLists.{same_zoned}
use Rattle.edi_line.proofs.zone_list.ZoneList.into_owned.Goals as goal

pub returns : goal.returns
returns c =
    let none : into_iter_items c.loop-zone.zone-iterator ≡ [] = nil_from_length (into_iter_items c.loop-zone.zone-iterator) (sym c.loop-zone.zone-iterator.rest.ok.0 ∙ c.in-None.ensures.steps.0) in
    same_zoned c.args.self.is_open c.loop-zone.owned.items c.args.self.zones.items
    (sym (append-nil (entries c.loop-zone.owned.items)) ∙ ap (λ l. entries c.loop-zone.owned.items ++ entries l) (sym none) ∙ c.loop-zone.invariant)
