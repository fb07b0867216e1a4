use Rattle.std.proofs.Common.{◌≡◌, false, take}
use Rattle.std.specs.List.{list_any}
use Rattle.edi_picture.specs.Frames.{is_outside}
use Rattle.edi_picture.proofs.canvas.Canvas.is_far.Given as goal

abbrev pub invariant-loop-point : goal.invariant-loop-point
invariant-loop-point l = list_any (is_outside l.self.frame) (take l.point-index l.point-items) ≡ false
