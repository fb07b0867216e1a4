use Rattle.std.proofs.Common.{◌≡◌, ◌++◌, take}
use Rattle.std.specs.List.{flat_map}
use Rattle.edi_objects.specs.Names.{naming_text}
use Rattle.edi_objects.proofs.names.Namer.push_object.Given as goal

abbrev pub invariant-loop-attribute : goal.invariant-loop-attribute
invariant-loop-attribute l = l.text.items ≡ (l.initial.text.items ++ flat_map (naming_text l.self) (take l.attribute-index l.attribute-items))
