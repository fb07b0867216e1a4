use Rattle.std.proofs.Common.{length}
use Rattle.edi_topo.specs.Marks.{AreMarksOf}
use Rattle.edi_topo.specs.inner.Keyed.{FollowsItsKey}
use Rattle.edi_topo.proofs.tie_marks.repeats.Given as goal

abbrev pub invariant-loop-i : goal.invariant-loop-i
invariant-loop-i g l = AreMarksOf (length l.pairs) (FollowsItsKey g.K.Ord.cmp l.pairs l.i) l.marks.items
