use Rattle.std.proofs.Common.{◌≡◌, take}
use Rattle.std.specs.List.{flat_map}
use Rattle.edi_objects.specs.Counts.{new_class}
use Rattle.edi_objects.proofs.account.ObjectReporter.new_classes.Given as goal

abbrev pub invariant-loop-place : goal.invariant-loop-place
invariant-loop-place l = l.classes.items ≡ flat_map (new_class l.self.report) (take l.place-index l.place-items)
