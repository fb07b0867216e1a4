use Rattle.std.proofs.Common.{◌≡◌, map, take}
use Rattle.edi_changes.specs.Stated.{manifest_entry}
use Rattle.edi_changes.proofs.stated.manifest_entries.Given as goal

abbrev pub invariant-loop-line : goal.invariant-loop-line
invariant-loop-line l = l.entries.items ≡ map manifest_entry (take l.line-index l.lines)
