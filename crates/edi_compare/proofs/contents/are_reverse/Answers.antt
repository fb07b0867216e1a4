use Rattle.std.proofs.Common.{◌≡◌, ◌-◌, ◌∙◌, ap, get_or, sym, arith, length, reverse}
use Rattle.std.proofs.lemmas.Bool.{false≢true}
use Rattle.std.proofs.lemmas.List.{get_or-reverse, get_or_default, length-reverse}
use borrow.Author.Count.{below_more}
use Rattle.edi_compare.proofs.Equal.{other_point, same_point, same_elements}
use Rattle.edi_compare.proofs.contents.are_reverse.Goals as goal

pub loop-i-preserved : goal.loop-i-preserved
loop-i-preserved c =
    let points = c.args.points.now in
    let others = c.args.others.now in
    let i = c.loop-i.i in
    let j = length points - 1 - i in
    let point = c.index-others-i.result in
    let other = c.index-points-points.result in
    let same : point ≡ other = same_point point other c.ne.result c.ne.ensures c.if-ne.false in
    below_more _ i c.loop-i.invariant (λ d. get_or_default others i d point (omega arith)
    ∙ (sym c.index-others-i.is ∙ (same ∙ (c.index-points-points.is ∙ get_or_default points j other d (omega (arith, c.if-others-points.false))))))

pub returns-then-ne : goal.returns-then-ne
returns-then-ne c =
    let points = c.args.points.now in
    let others = c.args.others.now in
    let i = c.loop-i.i in
    let j = length points - 1 - i in
    let point = c.index-others-i.result in
    let other = c.index-points-points.result in
    let reversed : others ≡ reverse points → point ≡ other = λ e.
    c.index-others-i.is ∙ (ap (λ l. get_or l i point) e ∙ (get_or-reverse points i point (omega (arith, c.if-others-points.false))
    ∙ (get_or_default points j point other (omega (arith, c.if-others-points.false)) ∙ sym c.index-points-points.is))) in
    (λ t. absurd (false≢true t), λ e. absurd (other_point point other c.ne.result c.ne.ensures c.if-ne.true (reversed e)))

pub returns : goal.returns
returns c =
    let points = c.args.points.now in
    let others = c.args.others.now in
    let long = c.if-others-points.false in
    (λ t. same_elements others (reverse points) (omega (arith, long, length-reverse points)) (λ k h d. c.loop-i.invariant k (omega arith) d ∙ sym (get_or-reverse points k d (omega (arith, long)))), λ e. cc)
