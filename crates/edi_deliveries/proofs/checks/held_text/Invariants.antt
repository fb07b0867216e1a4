use Rattle.std.proofs.Common.{◌≡◌, flat_map, take}
use Rattle.edi_deliveries.specs.Checks.{held_line}
use Rattle.edi_deliveries.proofs.checks.held_text.Given as goal

abbrev pub invariant-loop-change : goal.invariant-loop-change
invariant-loop-change l = l.text.items ≡ flat_map held_line (take l.change-index l.changes)
