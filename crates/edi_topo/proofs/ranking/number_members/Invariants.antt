use Rattle.std.proofs.Common.{◌≡◌, ◌<◌, ◌+◌, ℕ, length, get_or}
use Rattle.edi_topo.proofs.ranking.number_members.Given as goal

abbrev pub invariant-loop-pair : goal.invariant-loop-pair
invariant-loop-pair g l = record {
  length : length l.numbers.items ≡ length l.pairs;
  number : l.number ≡ l.pair-index;
  places : (i : ℕ) (d : _) → i < l.pair-index → get_or l.numbers.items (get_or l.pairs i d).1 0 ≡ i + 1;
}
