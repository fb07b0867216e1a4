use Rattle.edi_diff.proofs.Alone.{AreLoneBefore}
use Rattle.edi_diff.proofs.proposing.lone_neighbours.Given as goal

abbrev pub invariant-loop-at : goal.invariant-loop-at
invariant-loop-at g l = AreLoneBefore g.K.Ord.cmp l.pairs l.at l.found.items
