use Rattle.std.proofs.Common.{◌≡◌, map}
use Rattle.std.specs.List.{range_with_len}
use Rattle.edi_drawing.specs.Drawn.{first_label}
use Rattle.edi_drawing.proofs.labels.first_labels.Given as goal

abbrev pub invariant-loop-place : goal.invariant-loop-place
invariant-loop-place l = map (λ label. label.items) l.labels.items ≡ map (first_label l.schema l.pair) (range_with_len 0 l.place)
