-- The derived order of attributes is the written one.
use Rattle.std.proofs.Common.{◌≡◌, ap, nat_cmp}
use Rattle.std.specs.Ordering.{ordering_then}
use Rattle.edi_record.specs.Orders.{text_cmp}
use Rattle.edi_record.proofs.ValueOrder.{value_order}
use Rattle.edi_plan.specs.Orders.{attribute_cmp}
use Rattle.edi_plan.specs.declared.record.PlanAttribute.{PlanAttribute}
use Rattle.edi_plan.specs.contracts.record.PlanAttributeOrd.TheImpl.{ghosts as attributes}

pub attribute_order : (a b : PlanAttribute) → attributes.cmp a b ≡ attribute_cmp a b
attribute_order a b = ap (λ o. ordering_then (nat_cmp a.atp b.atp) (ordering_then (text_cmp a.tex b.tex) o)) (value_order a.value b.value)
