use Rattle.std.proofs.Common.{◌≡◌}
use Rattle.edi_topo.specs.Ranking.{keyed}
use Rattle.edi_topo.proofs.ranking.keyed_members.Given as goal

abbrev pub invariant-loop-member : goal.invariant-loop-member
invariant-loop-member g l = l.pairs.items ≡ keyed (g.L.Layer.key_of l.layer) l.member
