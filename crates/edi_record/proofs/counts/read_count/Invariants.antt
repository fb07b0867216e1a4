use Rattle.std.proofs.Common.{◌≡◌, ℕ, length}
use Rattle.edi_record.proofs.Loops.{comes_to}
use Rattle.edi_record.proofs.counts.read_count.Given as goal

abbrev pub invariant-loop-rest : goal.invariant-loop-rest
invariant-loop-rest l = (number : ℕ) → comes_to 0 l.fn.text number ≡ comes_to l.number l.rest number

abbrev pub decreases-loop-rest : goal.decreases-loop-rest
decreases-loop-rest l = length l.rest
