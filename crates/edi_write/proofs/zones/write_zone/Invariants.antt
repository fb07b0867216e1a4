use Rattle.std.proofs.Common.{◌≡◌, ◌++◌, length}
use Rattle.edi_write.specs.inner.Heads.{headed}
use Rattle.edi_line.specs.Printing.{printed_zone}
use Rattle.edi_write.proofs.zones.write_zone.Given as goal

abbrev pub invariant-loop-rest : goal.invariant-loop-rest
invariant-loop-rest l = l.out.items ++ printed_zone (headed l.line_head l.rest) ≡ l.fn.out.items ++ printed_zone (headed l.fn.head l.fn.value)

abbrev pub decreases-loop-rest : goal.decreases-loop-rest
decreases-loop-rest l = length l.rest
