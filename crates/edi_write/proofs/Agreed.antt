-- Attributes in order agree with a schema where the attributes do.
use Rattle.std.proofs.Common.{List}
use Rattle.std.specs.List.{AllByRecursion}
use Rattle.std.proofs.lemmas.List.Elements.{recursion_from_All, All-from_recursion}
use Rattle.std.proofs.lemmas.List.Sorted.{All-permutation, IsPermutation-sym}
use Rattle.edi_schema.specs.Classes.{Classes}
use Rattle.edi_schema.specs.Sorted.{sort_by}
use Rattle.edi_schema.proofs.SortedLists.{IsPermutation-sort_by}
use Rattle.edi_plan.specs.Agreeing.{AttributeAgrees}
use Rattle.edi_plan.specs.Orders.{attribute_cmp}
use Rattle.edi_plan.specs.declared.record.PlanAttribute.{PlanAttribute}
use Rattle.edi_plan.proofs.Orders.{attribute_total}

pub sorted_agree : (s : Classes) (xs : List PlanAttribute) → AllByRecursion (AttributeAgrees s) xs → AllByRecursion (AttributeAgrees s) (sort_by attribute_cmp xs)
sorted_agree s xs all = recursion_from_All (AttributeAgrees s) (sort_by attribute_cmp xs) (All-permutation (AttributeAgrees s) xs (sort_by attribute_cmp xs)
    (IsPermutation-sym _ _ (IsPermutation-sort_by attribute_cmp attribute_total xs)) (All-from_recursion (AttributeAgrees s) xs all))
