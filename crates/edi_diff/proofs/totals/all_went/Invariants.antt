use Rattle.std.proofs.Common.{ℕ, ◌<◌}
use Rattle.edi_matching.specs.Matchings.{IsMatched}
use Rattle.edi_diff.proofs.totals.all_went.Given as goal

abbrev pub invariant-loop-went : goal.invariant-loop-went
invariant-loop-went l = (i : ℕ) → i < l.went-index → IsMatched l.to i
