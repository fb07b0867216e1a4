use Rattle.std.proofs.Common.{◌≡◌, ◌++◌, take}
use Rattle.std.specs.List.{flat_map}
use Rattle.edi_picture.specs.Elements.{drawn_records}
use Rattle.edi_picture.proofs.layers.push_all_records.Given as goal

abbrev pub invariant-loop-sheet : goal.invariant-loop-sheet
invariant-loop-sheet l = l.text.items ≡ l.initial.text.items ++ flat_map (drawn_records l.kind l.canvas.schema.now l.canvas.frame l.ink) (take l.sheet-index l.sheets)
