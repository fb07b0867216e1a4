use Rattle.std.proofs.Common.{◌≡◌, ◌++◌}
use Rattle.edi_report.specs.inner.Packing.{packed_number}
use Rattle.edi_report.proofs.numbers.push_packed_number.Given as goal

abbrev pub invariant-loop-left : goal.invariant-loop-left
invariant-loop-left l = l.bytes.items ++ packed_number l.left ≡ l.fn.bytes.items ++ packed_number l.fn.number

abbrev pub decreases-loop-left : goal.decreases-loop-left
decreases-loop-left l = l.left
