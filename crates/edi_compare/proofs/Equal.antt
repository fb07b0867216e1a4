-- Equality of points, extra zones and attributes is decided by what `==` tells.
use Rattle.std.proofs.Common.{◌≡◌, ◌≢◌, ℕ, suc, ◌<◌, Bool, true, false, not, true≢false, Decides, List, [], ◌∷◌, length, get_or, arith, Ordering, is_eq, refl, sym, ap, ◌∙◌, IsPermutation, subst}
use Rattle.std.specs.Cmp.{IsTotalOrder}
use Rattle.std.proofs.lemmas.Cmp.{tied_itself}
use Rattle.std.proofs.lemmas.List.Sorted.{IsPermutation-sym, IsPermutation-trans}
use Rattle.std.proofs.lemmas.Map.Lookups.{CmpEqualImpliesEq}
use Rattle.std.proofs.lemmas.Bool.{not-false}
use Rattle.edi_line.proofs.Truths.{equal_is}
use Rattle.edi_record.specs.declared.record.Extra.{Extra}
use Rattle.edi_record.specs.declared.record.Point.{Point}
use Rattle.edi_record.specs.contracts.record.ExtraOrd.TheImpl.{ghosts as extras}
use Rattle.edi_record.specs.contracts.record.PointOrd.TheImpl.{ghosts as points}
use Rattle.edi_record.specs.contracts.record.ExtraOrd.TheImpl.Laws.{lawful as extra_laws}
use Rattle.edi_record.specs.contracts.record.ExtraPartialEq.TheImpl.{ghosts as extra_eq}
use Rattle.edi_record.specs.contracts.record.PointOrd.TheImpl.Laws.{lawful as point_laws}
use Rattle.edi_record.specs.contracts.record.PointPartialEq.TheImpl.{ghosts as point_eq}
use Rattle.edi_record.proofs.ValueOrder.{extra_order, point_order}
use Rattle.edi_schema.specs.Sorted.{sort_by}
use Rattle.edi_schema.proofs.SortedLists.{IsPermutation-sort_by, sort_by-same, counts_from_permutation}
use Rattle.edi_plan.specs.declared.record.PlanAttribute.{PlanAttribute}
use Rattle.edi_plan.specs.contracts.record.PlanAttributeOrd.TheImpl.{ghosts as attributes}
use Rattle.edi_plan.specs.contracts.record.PlanAttributeOrd.TheImpl.Laws.{lawful as attribute_laws}
use Rattle.edi_plan.specs.contracts.record.PlanAttributePartialEq.TheImpl.{ghosts as attribute_eq}
use Rattle.edi_plan.proofs.DerivedOrders.{attribute_order}
use Rattle.edi_plan.proofs.Orders.{point_total, point_exact, extra_total, extra_exact, attribute_total, attribute_exact}

-- what `==` says, where an order whose ties are equal agrees with it
pub decided : {X : Type 0} (eq : X → X → Bool) (below cmp : X → X → Ordering) → ((a b : X) → eq a b ≡ is_eq (below a b)) → ((a b : X) → below a b ≡ cmp a b)
    → IsTotalOrder cmp → CmpEqualImpliesEq cmp → (a b : X) → Decides (eq a b) (a ≡ b)
decided eq below cmp ties same total exact a b = (
  λ t. exact a b (sym (same a b) ∙ equal_is (below a b) (sym (ties a b) ∙ t)),
  λ e. ties a b ∙ ap is_eq (same a b ∙ (ap (cmp a) (sym e) ∙ tied_itself total a)),
)

pub point_decided : (a b : Point) → Decides (point_eq.eq a b) (a ≡ b)
point_decided = decided point_eq.eq points.cmp _ point_laws.matches_eq point_order point_total point_exact

pub extra_decided : (a b : Extra) → Decides (extra_eq.eq a b) (a ≡ b)
extra_decided = decided extra_eq.eq extras.cmp _ extra_laws.matches_eq extra_order extra_total extra_exact

pub attribute_decided : (a b : PlanAttribute) → Decides (attribute_eq.eq a b) (a ≡ b)
attribute_decided = decided attribute_eq.eq attributes.cmp _ attribute_laws.matches_eq attribute_order attribute_total attribute_exact

-- what `!=` says of points
pub same_point : (a b : Point) (r : Bool) → r ≡ not (point_eq.eq a b) → r ≡ false → a ≡ b
same_point a b r is e = (point_decided a b).0 (not-false (point_eq.eq a b) (sym is ∙ e))

pub other_point : (a b : Point) (r : Bool) → r ≡ not (point_eq.eq a b) → r ≡ true → a ≢ b
other_point a b r is e same = true≢false (sym e ∙ (is ∙ ap not ((point_decided a b).1 same)))

-- lists have the same elements exactly if they are one list in order

module _ {X : Type 0} (cmp : X → X → Ordering) (total : IsTotalOrder cmp) (exact : CmpEqualImpliesEq cmp) where
  pub permuted : (xs ys : List X) → sort_by cmp xs ≡ sort_by cmp ys → IsPermutation xs ys
  permuted xs ys e =
      IsPermutation-trans _ _ _ (IsPermutation-sym _ _ (IsPermutation-sort_by cmp total xs)) (subst (λ zs. IsPermutation zs ys) (sym e) (IsPermutation-sort_by cmp total ys))

  pub one_order : (xs ys : List X) → IsPermutation xs ys → sort_by cmp xs ≡ sort_by cmp ys
  one_order xs ys same = sort_by-same cmp total exact xs ys (counts_from_permutation xs ys same)

-- lists of one length with the same element at each place are one
pub same_elements : {X : Type 0} (xs ys : List X) → length xs ≡ length ys → ((k : ℕ) → k < length xs → (d : X) → get_or xs k d ≡ get_or ys k d) → xs ≡ ys
same_elements [] [] long same = refl
same_elements [] (y ∷ ys) long same = absurd (omega (arith, long))
same_elements (x ∷ xs) [] long same = absurd (omega (arith, long))
same_elements (x ∷ xs) (y ∷ ys) long same =
    let first : x ≡ y = same 0 (omega arith) x in
    let more : xs ≡ ys = same_elements xs ys (omega (arith, long)) (λ k h. same (suc k) (omega arith)) in
    cc
