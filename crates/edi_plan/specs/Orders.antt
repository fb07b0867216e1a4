-- The order of attributes.
use Rattle.std.specs.Ordering.{ordering_then, nat_cmp}
use Rattle.std.specs.declared.cmp.Ordering.{Ordering}
use Rattle.edi_record.specs.Orders.{text_cmp, value_cmp}
use Rattle.edi_plan.specs.declared.record.PlanAttribute.{PlanAttribute}

-- attributes go by class, then character set, then value
abbrev pub attribute_cmp : PlanAttribute → PlanAttribute → Ordering
attribute_cmp a b =
    ordering_then (nat_cmp a.atp b.atp) (ordering_then (text_cmp a.tex b.tex) (value_cmp a.value b.value))
