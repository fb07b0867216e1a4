use Rattle.std.proofs.Common.{◌≡◌, ◌++◌, take}
use Rattle.std.specs.List.{flat_map}
use Rattle.edi_picture.specs.Elements.{dot_text}
use Rattle.edi_picture.proofs.canvas.Canvas.push_dots.Given as goal

abbrev pub invariant-loop-point : goal.invariant-loop-point
invariant-loop-point l = l.text.items ≡ l.initial.text.items ++ flat_map (dot_text l.self.schema.now l.self.frame l.ink l.sheet l.place) (take l.point-index l.point-items)
