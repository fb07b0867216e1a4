use Rattle.std.proofs.Common.{◌<◌, ℕ}
use Rattle.edi_matching.specs.Matchings.{IsMatched}
use Rattle.edi_matching.proofs.growing.matches_all_of.Given as goal

-- the records so far are matched here, if they are there
abbrev pub invariant-loop-place : goal.invariant-loop-place
invariant-loop-place l = (k : ℕ) → k < l.place → IsMatched l.there k → IsMatched l.here k
