use Rattle.std.proofs.Common.{◌≡◌, ◌++◌, drop, map}
use Rattle.edi_compare.specs.inner.Checking.{placed_end}
use Rattle.edi_compare.proofs.moved_ends.placed_ends.Given as goal

abbrev pub invariant-loop-end : goal.invariant-loop-end
invariant-loop-end l = l.places.items ++ map placed_end (drop l.end-index l.ends) ≡ map placed_end l.ends
