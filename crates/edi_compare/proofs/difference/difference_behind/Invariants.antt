use Rattle.std.proofs.Common.{◌≡◌, ◌+◌, ◌≤◌, length, drop}
use Rattle.edi_compare.specs.inner.Differing.{differ_from}
use Rattle.edi_compare.proofs.difference.difference_behind.Given as goal

abbrev pub invariant-loop-a : goal.invariant-loop-a
invariant-loop-a l =
    (l.line ≤ l.fn.line + length l.yielded)
    × (differ_from l.line (drop (length l.yielded) l.first) (drop (length l.yielded) l.second) ≡ differ_from l.fn.line l.first l.second)
