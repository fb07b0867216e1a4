use Rattle.std.proofs.Common.{◌≡◌, ◌++◌}
use Rattle.std.specs.List.{flat_map, range_with_len}
use Rattle.edi_objects.specs.inner.Counts.{told_total}
use Rattle.edi_objects.proofs.account.ObjectReporter.push_class_lines.Given as goal

abbrev pub invariant-loop-place : goal.invariant-loop-place
invariant-loop-place l = l.text.items ≡ l.initial.text.items ++ flat_map (told_total l.self.naming l.told.gone l.told.new l.told.changed) (range_with_len 0 l.place)
