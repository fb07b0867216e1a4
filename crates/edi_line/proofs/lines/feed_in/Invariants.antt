use Rattle.std.proofs.Common.{◌≡◌, ℕ, ◌-◌, ◌<◌, ◌≤◌, false, eqb, get_or, length}
use Rattle.edi_line.proofs.lines.feed_in.Given as goal

abbrev pub invariant-loop-seen : goal.invariant-loop-seen
invariant-loop-seen l = record { within : l.seen ≤ length l.bytes; none : (k : ℕ) → k < l.seen → eqb (get_or l.bytes k 0) 10 ≡ false }

abbrev pub decreases-loop-seen : goal.decreases-loop-seen
decreases-loop-seen l = length l.bytes - l.seen
