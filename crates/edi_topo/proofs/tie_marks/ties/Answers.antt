use Rattle.std.proofs.Common.{length}
use Rattle.std.proofs.lemmas.Result.{IfOk-weaker}
use Rattle.edi_topo.specs.inner.Keyed.{FollowsItsKey}
use Rattle.edi_topo.specs.Marks.{AreMarksOf}
use Rattle.edi_topo.specs.Ranking.{Ties}
use Rattle.edi_topo.proofs.KeyOrder.{along_permutation, along_sorted}
use Rattle.edi_topo.proofs.KeyTies.{members_fit, marks_tie}
use Rattle.edi_topo.proofs.tie_marks.ties.Goals as goal

pub repeats-requires : goal.repeats-requires
repeats-requires g c =
    let xs = c.deref.result.now in
    members_fit g.L.Key.Ord.cmp g.met.L.Key.Ord.total (g.L.Layer.key_of c.args.layer.now) (g.L.Layer.size c.args.layer.now) xs
    (along_permutation (g.L.Layer.key_of c.args.layer.now) (g.L.Layer.size c.args.layer.now) xs c.in_ok-pairs.pairs.items c.deref.ensures.value c.in_ok-pairs.ensures.permutation)
    (along_sorted g.L.Key.Ord.cmp xs c.in_ok-pairs.pairs.items c.deref.ensures.value c.in_ok-pairs.ensures.sorted)

pub returns : goal.returns
returns g c =
    let xs = c.deref.result.now in
    IfOk-weaker c.repeats.result (λ marks. AreMarksOf (length xs) (FollowsItsKey g.L.Key.Ord.cmp xs (length xs)) marks.items)
    (λ marks. AreMarksOf (g.L.Layer.size c.args.layer.now) (Ties g.L.Key.Ord.cmp (g.L.Layer.key_of c.args.layer.now) (g.L.Layer.size c.args.layer.now)) marks.items)
    (λ marks. marks_tie g.L.Key.Ord.cmp g.met.L.Key.Ord.total (g.L.Layer.key_of c.args.layer.now) (g.L.Layer.size c.args.layer.now) xs
    (along_permutation (g.L.Layer.key_of c.args.layer.now) (g.L.Layer.size c.args.layer.now) xs c.in_ok-pairs.pairs.items c.deref.ensures.value c.in_ok-pairs.ensures.permutation)
    (along_sorted g.L.Key.Ord.cmp xs c.in_ok-pairs.pairs.items c.deref.ensures.value c.in_ok-pairs.ensures.sorted) marks.items) c.repeats.ensures
