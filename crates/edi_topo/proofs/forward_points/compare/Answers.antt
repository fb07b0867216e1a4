use Rattle.std.proofs.Common.{◌≡◌, sym, ap₂, ◌∙◌, arith, get_or, nat_cmp}
use Rattle.std.specs.Cmp.{ranked}
use Rattle.edi_record.specs.Orders.{point_cmp}
use Rattle.edi_topo.specs.NodeKeys.{no_point}
use Rattle.edi_topo.proofs.FirstDifference.{differs, first_difference, no_difference, one_further, tied}
use Rattle.edi_topo.proofs.forward_points.compare.Goals as goal

pub returns-then-is_ne : goal.returns-then-is_ne
returns-then-is_ne c =
    let a = c.args.a.now in
    let b = c.args.b.now in
    let here : c.cmp-order.result ≡ point_cmp (get_or a c.loop-i.i no_point) (get_or b c.loop-i.i no_point) = c.cmp-order.ensures ∙ ap₂ point_cmp (c.point.ensures no_point) (c.point-in-loop-i.ensures no_point) in
    here ∙ sym (first_difference point_cmp no_point a b c.loop-i.i
    (omega (arith, c.loop-i-test.true, c.loop-i.auto.i-end, c.min-i-end.ensures, c.len.ensures))
    (omega (arith, c.loop-i-test.true, c.loop-i.auto.i-end, c.min-i-end.ensures, c.len-2.ensures))
    c.loop-i.invariant (λ e. differs c.cmp-order.result (sym c.is_ne.ensures ∙ c.if-is_ne.true) (here ∙ e)))

pub loop-i-preserved : goal.loop-i-preserved
loop-i-preserved c =
    let a = c.args.a.now in
    let b = c.args.b.now in
    let here : c.cmp-order.result ≡ point_cmp (get_or a c.loop-i.i no_point) (get_or b c.loop-i.i no_point) = c.cmp-order.ensures ∙ ap₂ point_cmp (c.point.ensures no_point) (c.point-in-loop-i.ensures no_point) in
    one_further point_cmp no_point a b c.loop-i.i c.loop-i.invariant (sym here ∙ tied c.cmp-order.result (sym c.is_ne.ensures ∙ c.if-is_ne.false))

pub returns : goal.returns
returns c =
    let a = c.args.a.now in
    let b = c.args.b.now in
    sym (no_difference point_cmp no_point a b c.cmp.result (ranked _ _ c.cmp.result (c.cmp.ensures ∙ ap₂ nat_cmp c.len-3.ensures c.len-4.ensures))
    (λ j h k. c.loop-i.invariant j (omega (arith, h, k, c.loop-i-test.false, c.min-i-end.ensures, c.len.ensures, c.len-2.ensures))))
