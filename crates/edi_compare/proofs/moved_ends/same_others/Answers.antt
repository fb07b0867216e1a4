use Rattle.std.proofs.Common.{◌∙◌, sym, ap, [], ◌∷◌}
use Rattle.std.specs.List.{slice_index}
use Rattle.edi_topo.proofs.ArcEnds.{one_alone}
use Rattle.edi_compare.proofs.Placed.{alone_there}
use Rattle.edi_compare.proofs.moved_ends.same_others.Goals as goal

pub returns-then-others-eq1 : goal.returns-then-others-eq1
returns-then-others-eq1 c =
    let x = c.index-ends-0.result in
    let y = c.index-others-0.result in
    alone_there (slice_index c.args.to.now) c.same_end.result x y c.args.ends.now c.args.others.now
    (one_alone c.args.ends.now x c.if-ends-eq1.true ∙ ap (λ z. z ∷ []) (sym c.index-ends-0.is)) (one_alone c.args.others.now y c.if-others-eq1.true ∙ ap (λ z. z ∷ []) (sym c.index-others-0.is))
    c.same_end.ensures
