use Rattle.std.proofs.Common.{◌≡◌, ◌++◌, take}
use Rattle.std.specs.List.{flat_map}
use Rattle.edi_picture.specs.Labels.{label_text}
use Rattle.edi_picture.proofs.labels.push_each_label.Given as goal

abbrev pub invariant-loop-place : goal.invariant-loop-place
invariant-loop-place l = l.text.items ≡ l.initial.text.items ++ flat_map (label_text l.frame l.top l.sheet) (take l.place-index l.place-items)
