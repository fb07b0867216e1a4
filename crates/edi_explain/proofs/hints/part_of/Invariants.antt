use Rattle.std.proofs.Common.{◌≡◌, length}
use Rattle.edi_line.specs.inner.Lines.{lines_in}
use Rattle.edi_explain.proofs.Parts.{part_in}
use Rattle.edi_explain.proofs.hints.part_of.Given as goal

abbrev pub invariant-loop-rest : goal.invariant-loop-rest
invariant-loop-rest l = part_in (lines_in l.fn.bytes) ≡ part_in (lines_in l.rest)

abbrev pub decreases-loop-rest : goal.decreases-loop-rest
decreases-loop-rest l = length l.rest
