use Rattle.std.proofs.Common.{◌≡◌, map, take}
use Rattle.edi_deliveries.specs.Deliveries.{found_names}
use Rattle.edi_deliveries.proofs.said.found_names.Given as goal

abbrev pub invariant-loop-lot : goal.invariant-loop-lot
invariant-loop-lot l = map (λ name. name.now) l.found.items ≡ found_names l.names (take l.lot-index l.lots)
