use Rattle.std.proofs.Common.{map, take}
use Rattle.edi_deliveries.specs.inner.Paths.{HasJustNames}
use Rattle.edi_deliveries.proofs.said.found_table.Given as goal

abbrev pub invariant-loop-name : goal.invariant-loop-name
invariant-loop-name l = HasJustNames (map (λ name. name.now) (take l.name-index l.name-items)) l.table
