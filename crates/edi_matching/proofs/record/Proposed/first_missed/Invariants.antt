use Rattle.std.proofs.Common.{ℕ, ◌<◌}
use Rattle.edi_matching.specs.inner.Links.{IsFreeFor}
use Rattle.edi_matching.proofs.record.Proposed.first_missed.Given as goal

abbrev pub invariant-loop-target : goal.invariant-loop-target
invariant-loop-target l = (j : ℕ) → j < l.target → ¬ (IsFreeFor l.self l.reached l.place j)
