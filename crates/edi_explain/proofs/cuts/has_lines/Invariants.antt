use Rattle.std.proofs.Common.{◌≡◌, eqb, length}
use Rattle.edi_line.specs.inner.Lines.{lines_in}
use Rattle.edi_explain.proofs.cuts.has_lines.Given as goal

abbrev pub invariant-loop-rest : goal.invariant-loop-rest
invariant-loop-rest l = eqb l.fn.count (length (lines_in l.fn.bytes)) ≡ eqb l.left (length (lines_in l.rest))

abbrev pub decreases-loop-rest : goal.decreases-loop-rest
decreases-loop-rest l = length l.rest
