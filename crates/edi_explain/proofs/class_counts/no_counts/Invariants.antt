use Rattle.std.proofs.Common.{◌≡◌, ℕ, length, get_or}
use Rattle.edi_explain.proofs.class_counts.no_counts.Given as goal

abbrev pub invariant-loop : goal.invariant-loop
invariant-loop l = (length l.counts.items ≡ l.counter) × ((k : ℕ) → get_or l.counts.items k 0 ≡ 0)
