use Rattle.std.proofs.Common.{◌≡◌, ◌++◌, map, take}
use Rattle.edi_objects.proofs.attributes.push_classes.Given as goal

abbrev pub invariant-loop-attribute : goal.invariant-loop-attribute
invariant-loop-attribute l = l.classes.items ≡ l.initial.classes.items ++ map (λ a. a.atp) (take l.attribute-index l.attributes)
