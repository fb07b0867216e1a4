use Rattle.std.proofs.Common.{◌≡◌, ◌++◌, take}
use Rattle.std.specs.List.{flat_map}
use Rattle.edi_picture.specs.Faces.{faces_of}
use Rattle.edi_picture.proofs.layers.push_all_faces.Given as goal

abbrev pub invariant-loop-sheet : goal.invariant-loop-sheet
invariant-loop-sheet l = l.text.items ≡ l.initial.text.items ++ flat_map (faces_of l.canvas.schema.now l.canvas.frame) (take l.sheet-index l.sheets)
