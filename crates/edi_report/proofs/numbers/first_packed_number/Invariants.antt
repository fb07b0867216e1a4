use Rattle.std.proofs.Common.{◌≡◌, ◌<◌, ◌^◌, ◌++◌, ℕ, List, ◌+◌, drop}
use Rattle.edi_report.specs.inner.Packing.{packed_number}
use Rattle.edi_report.proofs.numbers.first_packed_number.Given as goal

abbrev pub invariant-loop-i : goal.invariant-loop-i
invariant-loop-i l = (n : ℕ) (rest : List ℕ) → n < 2 ^ 64 → l.bytes ≡ packed_number n ++ rest → (left : ℕ) × (l.number + left ≡ n) × (drop l.i l.bytes ≡ packed_number left ++ rest)
