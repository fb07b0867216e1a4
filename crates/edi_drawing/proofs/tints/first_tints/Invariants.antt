use Rattle.std.proofs.Common.{◌≡◌, map}
use Rattle.std.specs.List.{range_with_len}
use Rattle.edi_drawing.specs.Tints.{first_tint}
use Rattle.edi_drawing.proofs.tints.first_tints.Given as goal

abbrev pub invariant-loop-place : goal.invariant-loop-place
invariant-loop-place l = l.tints.items ≡ map (first_tint l.pair) (range_with_len 0 l.place)
