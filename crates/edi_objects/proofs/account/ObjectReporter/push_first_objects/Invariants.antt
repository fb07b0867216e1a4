use Rattle.std.proofs.Common.{◌≡◌, ◌++◌, take}
use Rattle.std.specs.List.{flat_map}
use Rattle.edi_objects.specs.Counts.{changed_class}
use Rattle.edi_objects.specs.Objects.{first_object}
use Rattle.edi_objects.proofs.account.ObjectReporter.push_first_objects.Given as goal

abbrev pub invariant-loop-place : goal.invariant-loop-place
invariant-loop-place l = (l.text.items ≡ l.initial.text.items ++ flat_map (first_object l.self.naming l.self.report) (take l.place-index l.place-items))
    × (l.changed.items ≡ l.initial.changed.items ++ flat_map (changed_class l.self.naming l.self.report) (take l.place-index l.place-items))
