-- Under an order whose ties are equal, lists in order with the same elements are equal.
use Rattle.std.proofs.Common.{◌≡◌, suc, ◌+◌, ◌<◌, Bool, true, false, cond, List, [], ◌∷◌, refl, sym, ap, ◌∙◌, subst, arith, sum_by, count_by, true≢false, IsPermutation, IsSorted, Ordering, Less, Equal, Greater, is_lt, is_gt, is_eq}
use Rattle.std.specs.List.{AllByRecursion}
use Rattle.std.specs.Cmp.{IsTotalOrder}
use Rattle.std.specs.Ordering.{ordering_reverse}
use Rattle.std.proofs.lemmas.Cmp.{tied_itself, upto}
use Rattle.std.proofs.lemmas.Map.Lookups.{CmpEqualImpliesEq}
use Rattle.std.proofs.lemmas.List.Sums.{sum_by-cons}
use Rattle.std.proofs.lemmas.List.Sorted.{sum_by-IsPermutation, IsPermutation-refl, IsPermutation-cons, IsPermutation-trans, IsPermutation-middle}
use Rattle.edi_schema.specs.Sorted.{insert_sorted, sort_by, NeverFalls}

-- each test passes as many of the one as of the other
abbrev pub SameCounts : {X : Type 0} → List X → List X → Type 0
SameCounts {X} xs ys = (test : X → Bool) → count_by test xs ≡ count_by test ys

pub counts_from_permutation : {X : Type 0} (xs ys : List X) → IsPermutation xs ys → SameCounts xs ys
counts_from_permutation xs ys h test = sym (sum_by-IsPermutation (λ x. cond (test x) 1 0) xs ys h)

pub count_by-cons : {X : Type 0} (test : X → Bool) (x : X) (xs : List X) → count_by test (x ∷ xs) ≡ cond (test x) 1 0 + count_by test xs
count_by-cons test x xs = sum_by-cons (λ x. cond (test x) 1 0) x xs

-- what is counted is there
counted : {X : Type 0} (test : X → Bool) (G : Type 0) (Q : X → Type 0) → ((x : X) → test x ≡ true → Q x → G) → (xs : List X) → AllByRecursion Q xs → 0 < count_by test xs → G
counted test G Q found [] all some = absurd (omega arith)
counted test G Q found (x ∷ xs) all some = go (test x) refl (subst (λ k. 0 < k) (count_by-cons test x xs) some) (counted test G Q found xs all.1)
  where
    go : (b : Bool) → test x ≡ b → 0 < cond b 1 0 + count_by test xs → (0 < count_by test xs → G) → G
    go true e h more = found x e all.0
    go false e h more = more (omega arith)

module _ {X : Type 0} (cmp : X → X → Ordering) (total : IsTotalOrder cmp) where
  abbrev AtMost : X → X → Type 0
  AtMost x y = is_gt (cmp x y) ≡ false

  not_below : (o : Ordering) → is_lt o ≡ false → is_gt (ordering_reverse o) ≡ false
  not_below Less h = h
  not_below Equal h = refl
  not_below Greater h = refl

  tied : (x y : X) → AtMost x y → AtMost y x → cmp x y ≡ Equal
  tied x y h g = go (cmp x y) refl h
    where
      go : (o : Ordering) → cmp x y ≡ o → is_gt o ≡ false → o ≡ Equal
      go Less e h = absurd (true≢false (sym (ap is_gt (total.antisymm y x ∙ ap ordering_reverse e)) ∙ g))
      go Equal e h = refl
      go Greater e h = absurd (true≢false h)

  below_all : (x : X) (ys : List X) → IsSorted cmp (x ∷ ys) → NeverFalls cmp ys → AllByRecursion (AtMost x) ys
  below_all x [] sorted up = tt
  below_all x (y ∷ ys) sorted up =
      let first : AtMost x y = ap is_gt (total.antisymm x y) ∙ not_below _ (sorted 0 x (omega arith) (omega arith)) in
      (first, weaker x y first ys up.0)
    where
      weaker : (x y : X) → AtMost x y → (ys : List X) → AllByRecursion (AtMost y) ys → AllByRecursion (AtMost x) ys
      weaker x y h [] all = tt
      weaker x y h (z ∷ zs) all = (upto total x y z h all.0, weaker x y h zs all.1)

  pub never_falls_from_sorted : (xs : List X) → IsSorted cmp xs → NeverFalls cmp xs
  never_falls_from_sorted [] sorted = tt
  never_falls_from_sorted (x ∷ xs) sorted =
      let tail : IsSorted cmp xs = λ k d p q. rw Rattle.std.proofs.Common.add-one (rw Rattle.std.proofs.Common.add-one at (sorted (suc k) d (omega arith) (omega arith))) in
      let up = never_falls_from_sorted xs tail in
      (below_all x xs sorted up, up)

  pub IsPermutation-insert_sorted : (new : X) (xs : List X) → IsPermutation (insert_sorted cmp new xs) (new ∷ xs)
  IsPermutation-insert_sorted new [] = IsPermutation-refl _
  IsPermutation-insert_sorted new (x ∷ xs) =
      elim (is_gt (cmp new x)) as (λ b. IsPermutation (cond b (x ∷ insert_sorted cmp new xs) (new ∷ x ∷ xs)) (new ∷ x ∷ xs)) [
        | true ↦ IsPermutation-trans _ _ _ (IsPermutation-cons x _ _ (IsPermutation-insert_sorted new xs)) (IsPermutation-middle (x ∷ []) new xs)
        | false ↦ IsPermutation-refl _
      ]

  pub IsPermutation-sort_by : (xs : List X) → IsPermutation (sort_by cmp xs) xs
  IsPermutation-sort_by [] = IsPermutation-refl []
  IsPermutation-sort_by (x ∷ xs) = IsPermutation-trans _ _ _ (IsPermutation-insert_sorted x _) (IsPermutation-cons x _ _ (IsPermutation-sort_by xs))

  all-insert_sorted : (P : X → Type 0) (new : X) (xs : List X) → P new → AllByRecursion P xs → AllByRecursion P (insert_sorted cmp new xs)
  all-insert_sorted P new [] h all = (h, tt)
  all-insert_sorted P new (x ∷ xs) h all =
      elim (is_gt (cmp new x)) as (λ b. AllByRecursion P (cond b (x ∷ insert_sorted cmp new xs) (new ∷ x ∷ xs))) [ true ↦ (all.0, all-insert_sorted P new xs h all.1) | false ↦ (h, all) ]

  above_head : (x y : X) → AtMost x y → (ys : List X) → AllByRecursion (AtMost y) ys → AllByRecursion (AtMost x) ys
  above_head x y h [] all = tt
  above_head x y h (z ∷ zs) all = (upto total x y z h all.0, above_head x y h zs all.1)

  NeverFalls-insert_sorted : (new : X) (xs : List X) → NeverFalls cmp xs → NeverFalls cmp (insert_sorted cmp new xs)
  NeverFalls-insert_sorted new [] up = (tt, tt)
  NeverFalls-insert_sorted new (x ∷ xs) up = go (is_gt (cmp new x)) refl (NeverFalls-insert_sorted new xs up.1)
    where
      turned : (o : Ordering) → is_gt o ≡ true → is_gt (ordering_reverse o) ≡ false
      turned Less h = absurd (true≢false (sym h))
      turned Equal h = absurd (true≢false (sym h))
      turned Greater h = refl

      go : (b : Bool) → is_gt (cmp new x) ≡ b → NeverFalls cmp (insert_sorted cmp new xs) → NeverFalls cmp (cond b (x ∷ insert_sorted cmp new xs) (new ∷ x ∷ xs))
      go true e more = (all-insert_sorted (AtMost x) new xs (ap is_gt (total.antisymm x new) ∙ turned (cmp new x) e) up.0, more)
      go false e more = ((e, above_head new x e xs up.0), up)

  pub NeverFalls-sort_by : (xs : List X) → NeverFalls cmp (sort_by cmp xs)
  NeverFalls-sort_by [] = tt
  NeverFalls-sort_by (x ∷ xs) = NeverFalls-insert_sorted x _ (NeverFalls-sort_by xs)

  module _ (exact : CmpEqualImpliesEq cmp) where
    -- the head of the one is no greater than any head of a list with its elements
    head_at_most : (x y : X) (xs ys : List X) → NeverFalls cmp (y ∷ ys) → SameCounts (x ∷ xs) (y ∷ ys) → AtMost y x
    head_at_most x y xs ys up same = counted (λ z. is_eq (cmp x z)) (AtMost y x) (AtMost y) (λ z e h. subst (AtMost y) (sym (exact x z (equal (cmp x z) e))) h) (y ∷ ys) (ap is_gt (tied_itself total y), up.0)
        (subst (λ k. 0 < k) (same (λ z. is_eq (cmp x z))) (rw (count_by-cons (λ z. is_eq (cmp x z)) x xs, tied_itself total x) (omega arith)))
      where
        equal : (o : Ordering) → is_eq o ≡ true → o ≡ Equal
        equal Less h = absurd (true≢false (sym h))
        equal Equal h = refl
        equal Greater h = absurd (true≢false (sym h))

    pub same_order : (xs ys : List X) → NeverFalls cmp xs → NeverFalls cmp ys → SameCounts xs ys → xs ≡ ys
    same_order [] [] up up' same = refl
    same_order [] (y ∷ ys) up up' same = absurd (omega (arith, same (λ _. true), count_by-cons (λ _. true) y ys))
    same_order (x ∷ xs) [] up up' same = absurd (omega (arith, same (λ _. true), count_by-cons (λ _. true) x xs))
    same_order (x ∷ xs) (y ∷ ys) up up' same =
        let e = exact x y (tied x y (head_at_most y x ys xs up (λ test. sym (same test))) (head_at_most x y xs ys up' same)) in
        rw (e, same_order xs ys up.1 up'.1 (λ test. omega (arith, sym (count_by-cons test x xs) ∙ (same test ∙ (count_by-cons test y ys ∙ ap (λ z. cond (test z) 1 0 + count_by test ys) (sym e))))))

    pub sort_by-same : (xs ys : List X) → SameCounts xs ys → sort_by cmp xs ≡ sort_by cmp ys
    sort_by-same xs ys same = same_order _ _ (NeverFalls-sort_by xs) (NeverFalls-sort_by ys)
        (λ test. counts_from_permutation _ _ (IsPermutation-sort_by xs) test ∙ (same test ∙ sym (counts_from_permutation _ _ (IsPermutation-sort_by ys) test)))

    pub sort_by-in_order : (xs : List X) → NeverFalls cmp xs → sort_by cmp xs ≡ xs
    sort_by-in_order xs up = same_order _ _ (NeverFalls-sort_by xs) up (counts_from_permutation _ _ (IsPermutation-sort_by xs))

    -- a list in order with the elements of another is that one in order
    pub sorted_is : (xs ys : List X) → IsPermutation xs ys → IsSorted cmp ys → ys ≡ sort_by cmp xs
    sorted_is xs ys same sorted = same_order ys _ (never_falls_from_sorted ys sorted) (NeverFalls-sort_by xs)
        (λ test. sym (counts_from_permutation _ _ same test) ∙ sym (counts_from_permutation _ _ (IsPermutation-sort_by xs) test))
