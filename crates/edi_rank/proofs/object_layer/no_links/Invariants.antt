use Rattle.std.proofs.Common.{◌≡◌, All, length, []}
use Rattle.edi_rank.proofs.object_layer.no_links.Given as goal

abbrev pub invariant-loop : goal.invariant-loop
invariant-loop l = record {
  empty : All (λ list. list ≡ []) l.links.items;
  long : length l.links.items ≡ l.counter;
}
