use Rattle.std.proofs.Common.{◌≡◌, ◌++◌, take}
use Rattle.std.specs.List.{flat_map}
use Rattle.edi_picture.specs.Faces.{band_text}
use Rattle.edi_picture.proofs.faces.push_each_band.Given as goal

abbrev pub invariant-loop-arc : goal.invariant-loop-arc
invariant-loop-arc l = l.text.items ≡ l.initial.text.items ++ flat_map (band_text l.canvas.frame l.sheet) (take l.arc-index l.arcs)
