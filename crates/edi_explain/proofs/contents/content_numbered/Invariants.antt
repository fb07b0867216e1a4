use Rattle.std.proofs.Common.{◌≡◌, ◌-◌, length, slice_get}
use Rattle.edi_line.specs.inner.Lines.{line_contents}
use Rattle.edi_explain.proofs.contents.content_numbered.Given as goal

abbrev pub invariant-loop-rest : goal.invariant-loop-rest
invariant-loop-rest l = slice_get (line_contents l.fn.bytes) (l.fn.number - 1) ≡ slice_get (line_contents l.rest) l.left

abbrev pub decreases-loop-rest : goal.decreases-loop-rest
decreases-loop-rest l = length l.rest
