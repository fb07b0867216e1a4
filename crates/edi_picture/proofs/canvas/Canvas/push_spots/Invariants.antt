use Rattle.std.proofs.Common.{◌≡◌, ◌++◌, take}
use Rattle.std.specs.List.{flat_map}
use Rattle.edi_picture.specs.Elements.{spot_text}
use Rattle.edi_picture.proofs.canvas.Canvas.push_spots.Given as goal

abbrev pub invariant-loop-point : goal.invariant-loop-point
invariant-loop-point l = l.text.items ≡ l.initial.text.items ++ flat_map (spot_text l.self.frame) (take l.point-index l.point-items)
