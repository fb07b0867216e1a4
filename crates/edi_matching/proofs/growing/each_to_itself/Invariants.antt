use Rattle.std.proofs.Common.{◌≡◌, ℕ, ◌<◌, length}
use Rattle.edi_matching.specs.Matchings.{GoesTo}
use Rattle.edi_matching.proofs.growing.each_to_itself.Given as goal

abbrev pub invariant-loop-place : goal.invariant-loop-place
invariant-loop-place l = (length l.to.items ≡ l.place) × ((k : ℕ) → k < l.place → GoesTo l.to.items k k)
