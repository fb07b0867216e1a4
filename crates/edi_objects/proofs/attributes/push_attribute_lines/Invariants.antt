use Rattle.std.proofs.Common.{◌≡◌, ◌++◌, map}
use Rattle.std.specs.List.{flat_map, range_with_len}
use Rattle.edi_objects.specs.Attributes.{class_line_at}
use Rattle.edi_objects.proofs.attributes.push_attribute_lines.Given as goal

abbrev pub invariant-loop-at : goal.invariant-loop-at
invariant-loop-at l = l.text.items ≡ l.initial.text.items ++ flat_map (class_line_at l.namer.classes (map (λ a. a.now) l.here.items) (map (λ a. a.now) l.there.items) l.classes.items) (range_with_len 0 l.at)
