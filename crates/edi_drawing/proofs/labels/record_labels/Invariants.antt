use Rattle.std.proofs.Common.{◌≡◌, map}
use Rattle.std.specs.List.{range_with_len}
use Rattle.edi_drawing.specs.Labels.{label_of}
use Rattle.edi_drawing.proofs.labels.record_labels.Given as goal

abbrev pub invariant-loop-place : goal.invariant-loop-place
invariant-loop-place l = map (λ label. label.items) l.labels.items ≡ map (label_of l.schema l.plan) (range_with_len 0 l.place)
