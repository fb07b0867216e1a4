use Rattle.std.proofs.Common.{◌≡◌, ◌++◌, take}
use Rattle.std.specs.List.{flat_map}
use Rattle.edi_picture.specs.Faces.{face_text}
use Rattle.edi_picture.proofs.faces.push_each_face.Given as goal

abbrev pub invariant-loop-place : goal.invariant-loop-place
invariant-loop-place l = l.text.items ≡ l.initial.text.items ++ flat_map (face_text l.canvas.schema.now l.canvas.frame l.sheet) (take l.place-index l.place-items)
