use Rattle.std.proofs.Common.{◌+◌}
use Rattle.edi_line.specs.AllBroken.{AreAllBroken}
use Rattle.edi_census.specs.inner.Judging.{BreaksBefore}
use Rattle.edi_census.proofs.judging.broken_by.Given as goal

abbrev pub invariant-loop-place : goal.invariant-loop-place
invariant-loop-place g l = AreAllBroken (BreaksBefore (g.J.Judging.Breaks l.records) l.first (l.place + 1)) l.list.items
