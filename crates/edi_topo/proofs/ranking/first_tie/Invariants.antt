use Rattle.edi_topo.specs.inner.Keyed.{IsLeastRepeatIfAny}
use Rattle.edi_topo.proofs.ranking.first_tie.Given as goal

abbrev pub invariant-loop-i : goal.invariant-loop-i
invariant-loop-i g l = IsLeastRepeatIfAny g.K.Ord.cmp l.pairs l.i l.least
