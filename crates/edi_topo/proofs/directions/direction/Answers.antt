use Rattle.std.proofs.Common.{sym, ◌∙◌, arith, reverse, Equal}
use Rattle.std.proofs.lemmas.List.{length-reverse}
use Rattle.edi_record.specs.Orders.{point_cmp}
use Rattle.edi_topo.specs.NodeKeys.{no_point}
use Rattle.edi_topo.proofs.FirstDifference.{differs, first_difference, no_difference, one_further, tied}
use Rattle.edi_topo.proofs.directions.direction.Goals as goal

pub returns-then-is_ne : goal.returns-then-is_ne
returns-then-is_ne c =
    let points = c.args.points.now in
    let across = c.compare_across-order.ensures no_point in
    across ∙ sym (first_difference point_cmp no_point points (reverse points) c.loop-i.i (omega (arith, c.loop-i-test.true, c.loop-i.auto.i-end))
    (omega (arith, c.loop-i-test.true, c.loop-i.auto.i-end, length-reverse points)) c.loop-i.invariant
    (λ e. differs c.compare_across-order.result (sym c.is_ne.ensures ∙ c.if-is_ne.true) (across ∙ e)))

pub loop-i-preserved : goal.loop-i-preserved
loop-i-preserved c =
    let points = c.args.points.now in
    one_further point_cmp no_point points (reverse points) c.loop-i.i c.loop-i.invariant
    (sym (c.compare_across-order.ensures no_point) ∙ tied c.compare_across-order.result (sym c.is_ne.ensures ∙ c.if-is_ne.false))

pub returns : goal.returns
returns c =
    let points = c.args.points.now in
    sym (no_difference point_cmp no_point points (reverse points) Equal (sym (length-reverse points)) (λ j h k. c.loop-i.invariant j (omega (arith, h, c.loop-i-test.false, c.loop-i.auto.i-end))))
