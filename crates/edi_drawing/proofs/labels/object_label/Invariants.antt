use Rattle.std.proofs.Common.{◌≡◌, drop, find, map}
use Rattle.edi_drawing.specs.Labels.{attribute_label, is_something}
use Rattle.edi_drawing.proofs.labels.object_label.Given as goal

abbrev pub invariant-loop-attribute : goal.invariant-loop-attribute
invariant-loop-attribute l = find is_something (map (attribute_label l.schema) (drop l.attribute-index l.attribute-items)) ≡ find is_something (map (attribute_label l.schema) l.attribute-items)
