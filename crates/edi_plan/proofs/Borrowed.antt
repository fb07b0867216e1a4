-- Lists of what is borrowed, in the order of what it is borrowed from.
use Rattle.std.proofs.Common.{◌≡◌, ◌+◌, List, [], ◌∷◌, map, map-id, get_or, Option, Result, Ok, Err, IfOk, Ordering, is_lt, sym, ap, ap₂, ◌∙◌, subst, arith, IsPermutation, IsSorted}
use Rattle.std.specs.Cmp.{IsTotalOrder}
use Rattle.std.specs.Iterator.Runs.{Run, WholeRun}
use Rattle.std.specs.declared.vec.Vec.{Vec}
use Rattle.std.proofs.lemmas.Iterator.{YieldsList}
use Rattle.std.proofs.lemmas.List.{get_or-map, length-map}
use Rattle.std.proofs.lemmas.List.Sorted.{IsPermutation-map}
use Rattle.std.proofs.lemmas.Map.Lookups.{CmpEqualImpliesEq}
use Rattle.itertools.proofs.AdaptorLemmas.{items_from_whole_run}
use Rattle.edi_schema.specs.Sorted.{sort_by}
use Rattle.edi_schema.proofs.SortedLists.{sorted_is}

module _ {X Y : Type 0} (f : X → Y) (cmp : Y → Y → Ordering) (total : IsTotalOrder cmp) (exact : CmpEqualImpliesEq cmp) (below : X → X → Ordering) (same : (a b : X) → below a b ≡ cmp (f a) (f b)) where
  sorted_mapped : (xs : List X) → IsSorted below xs → IsSorted cmp (map f xs)
  sorted_mapped [] sorted = λ k d p q. absurd (omega (arith, q))
  sorted_mapped (x ∷ xs) sorted = λ k d p q. (
      let long = length-map (x ∷ xs) f in
      let first = get_or-map f (x ∷ xs) k x d (omega (arith, q, long)) in
      let second = get_or-map f (x ∷ xs) (k + 1) x d (omega (arith, q, long)) in
      ap₂ (λ a b. is_lt (cmp a b)) second first ∙ (ap is_lt (sym (same (get_or (x ∷ xs) (k + 1) x) (get_or (x ∷ xs) k x))) ∙ sorted k x p (omega (arith, q, long))))

  pub sorted_borrowed : (ys : List Y) (xs zs : List X) → map f xs ≡ ys → IsPermutation xs zs → IsSorted below zs → map f zs ≡ sort_by cmp ys
  sorted_borrowed ys xs zs is permuted sorted =
      sorted_is cmp total exact ys (map f zs) (subst (λ es. IsPermutation es (map f zs)) is (IsPermutation-map f xs zs permuted)) (sorted_mapped zs sorted)

-- the items of a whole run, as they are read
pub items_of : {S X Y : Type 0} {steps : S → Option X → S → Type 0} {f : X → Y} {s : S} {ys : List Y} {P : Run steps → Type 0}
    → (run : WholeRun steps s P) → YieldsList steps f s ys → map f run.0.items ≡ ys
items_of run road = items_from_whole_run road run.0 run.1 run.2

-- what is collected, as it is read, is the list that the iterator yields
pub collected_as : {S X Y Z E : Type 0} {steps : S → Option X → S → Type 0} {f : X → Y} {s : S} {ys : List Y} (zs : List Y) (r : Result (Vec X Z) E)
    → IfOk r (λ v. WholeRun steps s (λ p. v.items ≡ p.items)) → YieldsList steps f s ys → ys ≡ zs → IfOk r (λ v. map f v.items ≡ zs)
collected_as {f = f} zs (Ok v) run road is = ap (map f) run.3 ∙ (items_of run road ∙ is)
collected_as zs (Err e) run road is = tt
