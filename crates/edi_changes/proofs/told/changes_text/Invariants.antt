use Rattle.std.proofs.Common.{◌≡◌, flat_map, take}
use Rattle.edi_changes.specs.Told.{change_line}
use Rattle.edi_changes.specs.declared.changes.Change.{Change}
use Rattle.edi_changes.proofs.told.changes_text.Given as goal

abbrev pub invariant-loop-change : goal.invariant-loop-change
invariant-loop-change l = l.text.items ≡ flat_map (λ (c : Change). change_line c.fate c.subject) (take l.change-index l.changes)
