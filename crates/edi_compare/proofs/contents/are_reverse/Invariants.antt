use Rattle.std.proofs.Common.{◌≡◌, ◌-◌, ◌<◌, ℕ, length, get_or}
use Rattle.edi_record.specs.declared.record.Point.{Point}
use Rattle.edi_compare.proofs.contents.are_reverse.Given as goal

-- each point so far is the one as far from the other end
abbrev pub invariant-loop-i : goal.invariant-loop-i
invariant-loop-i l = (k : ℕ) → k < l.i → (d : Point) → get_or l.others k d ≡ get_or l.points (length l.points - 1 - k) d
