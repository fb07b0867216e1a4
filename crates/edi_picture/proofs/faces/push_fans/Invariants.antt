use Rattle.std.proofs.Common.{◌≡◌, ◌++◌, take}
use Rattle.std.specs.List.{flat_map}
use Rattle.edi_picture.specs.Faces.{fan_text}
use Rattle.edi_picture.proofs.faces.push_fans.Given as goal

abbrev pub invariant-loop-arc : goal.invariant-loop-arc
invariant-loop-arc l = l.text.items ≡ l.initial.text.items ++ flat_map (fan_text l.canvas.frame l.sheet l.base) (take l.arc-index l.arcs)
