use Rattle.std.proofs.Common.{take}
use Rattle.edi_picture.specs.inner.Odd.{HasOdd}
use Rattle.edi_picture.proofs.ends.closes.Given as goal

abbrev pub invariant-loop-end : goal.invariant-loop-end
invariant-loop-end l = HasOdd l.odd (take l.end-index l.ends)
