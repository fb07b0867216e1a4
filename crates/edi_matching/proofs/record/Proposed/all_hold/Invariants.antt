use Rattle.std.proofs.Common.{ℕ, ◌<◌}
use Rattle.edi_matching.specs.inner.Proposals.{HoldsAt}
use Rattle.edi_matching.proofs.record.Proposed.all_hold.Given as goal

-- what is asked holds of the records so far
abbrev pub invariant-loop-place : goal.invariant-loop-place
invariant-loop-place l = (k : ℕ) → k < l.place → HoldsAt l.self k
