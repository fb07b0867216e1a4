-- The index of a plan is in order.
use Rattle.std.proofs.Common.{ℕ, ap₂, nat_cmp}
use Rattle.std.specs.Cmp.{IsTotalOrder}
use Rattle.std.specs.List.Sorted.{IsNonDecreasingBy}
use Rattle.std.proofs.lemmas.Cmp.{then_total, on_total, nat_cmp_total}
use Rattle.std.proofs.lemmas.Map.Keys.{le_from_not_gt}
use Rattle.std.proofs.lemmas.Map.Lookups.{CmpEqualImpliesEq, exact_unsigned}
use Rattle.edi_line.proofs.Truths.{first_not_greater, first_tied, then_tied}
use Rattle.edi_plan.specs.Plans.{PlanData}
use Rattle.edi_schema.proofs.SortedLists.{NeverFalls-sort_by}
use Rattle.edi_objects.specs.LinksOf.{index_of, naming_cmp}
use Rattle.edi_objects.specs.inner.Indices.{all_named}
use Rattle.edi_objects.proofs.Runs.{never_falls_by}

pub naming_total : IsTotalOrder naming_cmp
naming_total = then_total (on_total (λ (a : ℕ × ℕ). a.0) nat_cmp_total) (on_total (λ (a : ℕ × ℕ). a.1) nat_cmp_total)

pub naming_exact : CmpEqualImpliesEq naming_cmp
naming_exact a b h = ap₂ (λ (x y : ℕ). (x, y)) (exact_unsigned a.0 b.0 (first_tied _ _ h)) (exact_unsigned a.1 b.1 (then_tied _ _ h))

pub index_rises : (p : PlanData) → IsNonDecreasingBy (λ (x : ℕ × ℕ). x.0) (index_of p)
index_rises p = unfold index_of in
    never_falls_by naming_cmp (λ (x : ℕ × ℕ). x.0) (λ x y h. le_from_not_gt x.0 y.0 (first_not_greater (nat_cmp x.0 y.0) (nat_cmp x.1 y.1) h)) (index_of p) (NeverFalls-sort_by naming_cmp naming_total (all_named p))
