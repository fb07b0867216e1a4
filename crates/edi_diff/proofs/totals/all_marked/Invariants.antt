use Rattle.std.proofs.Common.{◌≡◌, ℕ, ◌<◌, false, get_or, true}
use Rattle.edi_diff.proofs.totals.all_marked.Given as goal

abbrev pub invariant-loop-mark : goal.invariant-loop-mark
invariant-loop-mark l = (j : ℕ) → j < l.mark-index → get_or l.marks j false ≡ true
