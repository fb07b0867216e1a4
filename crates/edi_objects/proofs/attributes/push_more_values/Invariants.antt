use Rattle.std.proofs.Common.{◌≡◌, ◌++◌, codes, map, take}
use Rattle.std.specs.List.{flat_map}
use Rattle.edi_objects.specs.Names.{shown_value}
use Rattle.edi_objects.proofs.attributes.push_more_values.Given as goal

abbrev pub invariant-loop-attribute : goal.invariant-loop-attribute
invariant-loop-attribute l = l.text.items ≡ l.initial.text.items ++ flat_map (λ b. codes ", " ++ shown_value b.value) (map (λ a. a.now) (take l.attribute-index l.attributes))
