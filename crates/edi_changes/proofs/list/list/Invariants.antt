use Rattle.std.proofs.Common.{◌≡◌, take}
use Rattle.edi_changes.specs.ListText.{list_text}
use Rattle.edi_changes.proofs.list.list.Given as goal

abbrev pub invariant-loop-line : goal.invariant-loop-line
invariant-loop-line l = l.text.items ≡ list_text (take l.line-index l.lines)
