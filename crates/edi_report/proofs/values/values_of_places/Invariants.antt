use Rattle.std.proofs.Common.{◌≡◌, ℕ, map}
use Rattle.std.specs.List.{range_with_len}
use Rattle.edi_report.specs.Values.{AreValuesOf}
use Rattle.edi_report.proofs.values.values_of_places.Given as goal

abbrev pub invariant-loop-place : goal.invariant-loop-place
invariant-loop-place g l = (f : ℕ → _) → AreValuesOf (goal.F-post g l.value) f l.count → l.values.items ≡ map f (range_with_len 0 l.place)
