use Rattle.std.proofs.Common.{◌+◌}
use Rattle.edi_line.specs.AllBroken.{AreAllBroken}
use Rattle.edi_census.specs.inner.Judging.{BreaksBefore}
use Rattle.edi_census.proofs.judging.push_broken.Given as goal

abbrev pub invariant-loop-rule : goal.invariant-loop-rule
invariant-loop-rule g l =
    AreAllBroken (BreaksBefore (g.J.Judging.Breaks l.records) l.first (l.place + 1)) l.initial.list.items
    → AreAllBroken (BreaksBefore (g.J.Judging.Breaks l.records) l.rule (l.place + 1)) l.list.items
