use Rattle.std.proofs.Common.{◌≡◌}
use Rattle.edicad_c.specs.PairLists.{first_pairs}
use Rattle.edicad_c.proofs.pair.pairs_of.Given as goal

abbrev pub invariant-loop-place : goal.invariant-loop-place
invariant-loop-place l = l.pairs.items ≡ first_pairs l.pairing l.place
