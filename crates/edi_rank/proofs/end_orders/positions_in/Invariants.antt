use Rattle.std.proofs.Common.{◌≡◌, ◌++◌, drop, map}
use Rattle.edi_rank.proofs.end_orders.positions_in.Given as goal

abbrev pub invariant-loop-pair : goal.invariant-loop-pair
invariant-loop-pair l = l.positions.items ++ map (λ pair. pair.1) (drop l.pair-index l.pairs) ≡ map (λ pair. pair.1) l.pairs
