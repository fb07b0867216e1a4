use Rattle.std.proofs.Common.{◌≡◌, ◌++◌, take}
use Rattle.std.specs.List.{flat_map}
use Rattle.edi_objects.specs.Elements.{first_element}
use Rattle.edi_objects.proofs.account.ObjectReporter.push_first_elements.Given as goal

abbrev pub invariant-loop-place : goal.invariant-loop-place
invariant-loop-place l = l.text.items ≡ l.initial.text.items ++ flat_map (first_element l.self.naming l.self.report) (take l.place-index l.place-items)
