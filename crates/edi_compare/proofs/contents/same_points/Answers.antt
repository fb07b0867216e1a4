use Rattle.std.proofs.Common.{cond, ◌∙◌, sym, ap, reverse}
use Rattle.std.proofs.lemmas.Slice.Eq.{slice_eq-Decides}
use Rattle.edi_compare.proofs.Equal.{point_decided}
use Rattle.edi_compare.proofs.contents.same_points.Goals as goal

pub returns-else-turned : goal.returns-else-turned
returns-else-turned c =
    let d = slice_eq-Decides point_decided c.args.others.now c.args.points.now c.eq.result c.eq.ensures in
    let same = ap (λ b. cond b (reverse c.args.points.now) c.args.points.now) c.if-turned.false in
    (λ t. d.0 t ∙ sym same, λ e. d.1 (e ∙ same))
