use Rattle.std.proofs.Common.{◌≡◌, ◌++◌}
use Rattle.std.specs.Vec.Iter.{into_iter_items}
use Rattle.edi_line.specs.ZoneData.{entries}
use Rattle.edi_line.proofs.zone_list.ZoneList.into_owned.Given as goal

abbrev pub invariant-loop-zone : goal.invariant-loop-zone
invariant-loop-zone l = entries l.owned.items ++ entries (into_iter_items l.zone-iterator) ≡ entries l.fn.self.zones.items
