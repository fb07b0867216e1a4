use Rattle.std.proofs.Common.{◌∙◌, sym, ap₂, nat_cmp}
use Rattle.edi_plan.specs.Orders.{attribute_cmp}
use Rattle.edi_plan.proofs.AttributeFronts.{decided}
use Rattle.edi_plan.proofs.DerivedOrders.{attribute_order}
use Rattle.edi_plan.proofs.attribute_keys.compare.Goals as goal

pub returns-then-is_ne-2 : goal.returns-then-is_ne-2
returns-then-is_ne-2 c =
    let a = c.a.inside.attribute.now in
    let b = c.b.inside.attribute.now in
    decided a b c.cmp-order.result c.cmp-order-2.result c.a.invariant.2 c.b.invariant.2
    (c.cmp-order.ensures ∙ ap₂ nat_cmp c.a.invariant.0 c.b.invariant.0) (sym c.is_ne.ensures ∙ c.if-is_ne.false)
    (c.cmp-order-2.ensures ∙ ap₂ nat_cmp c.a.invariant.1 c.b.invariant.1) (sym c.is_ne-2.ensures ∙ c.if-is_ne-2.true)
    ∙ ap₂ attribute_cmp c.a.view_is c.b.view_is ∙ sym (attribute_order c.args.a.now c.args.b.now)
