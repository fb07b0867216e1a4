use Rattle.std.proofs.Common.{◌≡◌, map, take}
use Rattle.edi_deliveries.specs.Checks.{named_entry}
use Rattle.edi_deliveries.proofs.checks.named_entries.Given as goal

abbrev pub invariant-loop-line : goal.invariant-loop-line
invariant-loop-line l = l.entries.items ≡ map named_entry (take l.line-index l.lines)
