use Rattle.std.proofs.lemmas.Result.{IfOk-weaker}
use Rattle.edi_diff.specs.inner.LonePairs.{AreLoneNeighbours, AreLonePairs}
use Rattle.edi_diff.proofs.Alone.{lone_pairs_from_neighbours}
use Rattle.edi_diff.proofs.proposing.lone_pairs.Goals as goal

pub returns : goal.returns
returns g c =
    let cmp = g.K.Ord.cmp in
    let new = c.sort_unstable.new.self in
    IfOk-weaker c.lone_neighbours.result (λ found. AreLoneNeighbours cmp new found.items) (λ found. AreLonePairs cmp c.args.pairs.now found.items)
    (λ found near. lone_pairs_from_neighbours cmp g.met.K.Ord.total c.args.pairs.now new c.sort_unstable.ensures.permutation c.sort_unstable.ensures.sorted found.items near) c.lone_neighbours.ensures
