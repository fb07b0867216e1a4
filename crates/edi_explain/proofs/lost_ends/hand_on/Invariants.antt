use Rattle.std.proofs.Common.{length}
use Rattle.edi_line.specs.ZoneData.{entries}
use Rattle.edi_explain.proofs.HandedOn.{HandedOn}
use Rattle.edi_explain.proofs.lost_ends.hand_on.Given as goal

abbrev pub invariant-loop-rest : goal.invariant-loop-rest
invariant-loop-rest g l = HandedOn (g.O.WholeGroupOut.Holds l.initial.out) (entries l.fn.zones) (g.O.WholeGroupOut.Holds l.out) (entries l.rest)

abbrev pub decreases-loop-rest : goal.decreases-loop-rest
decreases-loop-rest g l = length l.rest
