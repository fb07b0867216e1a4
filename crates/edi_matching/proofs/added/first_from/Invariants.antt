use Rattle.std.proofs.Common.{◌≡◌, ◌-◌, ◌≤◌, ◌<◌, ℕ, get_or, length, true}
use Rattle.std.specs.Ordering.{is_lt}
use Rattle.edi_matching.proofs.added.first_from.Given as goal

-- the keys so far are less
abbrev pub invariant-loop-at : goal.invariant-loop-at
invariant-loop-at g l = (l.from ≤ l.at) × ((k : ℕ) (d : _) → l.from ≤ k → k < l.at → is_lt (g.K.Ord.cmp (get_or l.others k d).0 l.key) ≡ true)

abbrev pub decreases-loop-at : goal.decreases-loop-at
decreases-loop-at g l = length l.others - l.at
