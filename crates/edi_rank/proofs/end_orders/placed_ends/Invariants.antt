use Rattle.std.proofs.Common.{◌≡◌, get_or}
use Rattle.std.specs.List.{slice_index}
use Rattle.edi_topo.specs.Ranking.{keyed}
use Rattle.edi_rank.specs.EndOrder.{no_end}
use Rattle.edi_rank.specs.Keys.{numbered}
use Rattle.edi_rank.proofs.end_orders.placed_ends.Given as goal

abbrev pub invariant-loop-index : goal.invariant-loop-index
invariant-loop-index l = l.pairs.items ≡ keyed (λ i. numbered l.plan (slice_index l.numbers) (get_or l.ends i no_end)) l.index
