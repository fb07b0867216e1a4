use Rattle.std.proofs.Common.{◌≡◌, ◌++◌, take}
use Rattle.std.specs.List.{flat_map}
use Rattle.edi_picture.specs.Labels.{sheet_labels}
use Rattle.edi_picture.proofs.layers.push_each_label.Given as goal

abbrev pub invariant-loop-sheet : goal.invariant-loop-sheet
invariant-loop-sheet l = l.text.items ≡ l.initial.text.items ++ flat_map (sheet_labels l.frame l.top) (take l.sheet-index l.sheets)
