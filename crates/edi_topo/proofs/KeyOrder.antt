-- In the order of the keys, where no two tie, a member's number is one more than its place.
use Rattle.std.proofs.Common.{◌≡◌, ◌≢◌, ℕ, zero, suc, ◌+◌, ◌<◌, ◌≤◌, ◌⊎◌, inl, inr, cond, Bool, false, true≢false, List, [], ◌∷◌, ◌++◌, length, get_or, refl, sym, ap, ◌∙◌, subst, arith, All, AllPairs, Contains, sum_by, IsPermutation, IsSorted, Ordering, Less, Equal, Greater, is_lt, nat_cmp}
use Rattle.std.specs.List.{AllAdjacentBelow}
use Rattle.std.specs.Cmp.{IsTotalOrder}
use Rattle.std.specs.Ordering.{ordering_then, ordering_reverse, on}
use Rattle.std.proofs.lemmas.Bool.{cases_order, cases_lt}
use Rattle.std.proofs.lemmas.Cmp.{on_total, tied_itself, tied_back}
use Rattle.std.proofs.lemmas.List.{length_push, get_or_default}
use Rattle.std.proofs.lemmas.List.Elements.{All-nil, All-push, All-weaker, Contains-push, Contains-append_left}
use Rattle.std.proofs.lemmas.List.Sums.{sum_by_push}
use Rattle.std.proofs.lemmas.List.Sorted.{length_permutation, All-permutation, Contains-permutation, sum_by-IsPermutation}
use Rattle.std.proofs.lemmas.Map.Keys.{sorted_from_all_adjacent, Less-from_sorted}
use Rattle.edi_topo.specs.Ranking.{keyed, sum_below, rank}
use Rattle.edi_topo.proofs.Sums.{sum_by-below}

module _ {K : Type 0} (key : ℕ → K) where
  pub length-keyed : (n : ℕ) → length (keyed key n) ≡ n
  length-keyed zero = refl
  length-keyed (suc n) = length_push (keyed key n) (key n, n) ∙ (rw (length-keyed n) (omega arith))

  pub IsMember : ℕ → K × ℕ → Type 0
  IsMember n x = (x.1 < n) × (x.0 ≡ key x.1)

  pub members : (n : ℕ) → All (IsMember n) (keyed key n)
  unfolding IsMember
  members zero = All-nil (λ (x : K × ℕ). (x.1 < 0) × (x.0 ≡ key x.1))
  members (suc n) = All-push (λ (x : K × ℕ). (x.1 < suc n) × (x.0 ≡ key x.1)) (keyed key n) (key n, n)
      (All-weaker (λ (x : K × ℕ). (x.1 < n) × (x.0 ≡ key x.1)) (λ (x : K × ℕ). (x.1 < suc n) × (x.0 ≡ key x.1)) (λ x h. (omega (arith, h.0), h.1)) (keyed key n) (members n)) (omega arith, refl)

  pub AreMembers : (n : ℕ) → All (λ (x : K × ℕ). (x.1 < n) × (x.0 ≡ key x.1)) (keyed key n)
  unfolding IsMember
  AreMembers n = members n

  pub has_member : (n m : ℕ) → m < n → Contains (keyed key n) (key m, m)
  has_member zero m h = absurd (omega arith)
  has_member (suc n) m h = go (cases_order m n) (has_member n m)
    where
      go : (m ≡ n) ⊎ ((m < n) ⊎ (n < m)) → (m < n → Contains (keyed key n) (key m, m)) → Contains (keyed key n ++ (key n, n) ∷ []) (key m, m)
      go (inl e) more = subst (λ k. Contains (keyed key n ++ (key n, n) ∷ []) (key k, k)) (sym e) (Contains-push (keyed key n) (key n, n))
      go (inr (inl less)) more = Contains-append_left (keyed key n) ((key n, n) ∷ []) (key m, m) (more less)
      go (inr (inr past)) more = absurd (omega arith)

  sum_by-keyed : (w : K → ℕ) (n : ℕ) → sum_by (λ x. w x.0) (keyed key n) ≡ sum_below n (λ i. w (key i))
  sum_by-keyed w zero = refl
  sum_by-keyed w (suc n) = sum_by_push (λ x. w x.0) (keyed key n) (key n, n) ∙ (omega (arith, sum_by-keyed w n))

all_ones : (n : ℕ) (w : ℕ → ℕ) → ((i : ℕ) → i < n → w i ≡ 1) → sum_below n w ≡ n
all_ones zero w one = refl
all_ones (suc n) w one = omega (arith, one n (omega arith), all_ones n w (λ i l. one i (omega arith)))

below_count : (n j : ℕ) (w : ℕ → ℕ) → ((i : ℕ) → i < j → w i ≡ 1) → ((i : ℕ) → j ≤ i → i < n → w i ≡ 0) → j ≤ n → sum_below n w ≡ j
below_count zero j w one none h = omega arith
below_count (suc n) j w one none h = go (cases_lt n j) (below_count n j w one (λ i l d. none i l (omega arith)))
  where
    go : (n < j) ⊎ (j ≤ n) → (j ≤ n → sum_below n w ≡ j) → w n + sum_below n w ≡ j
    go (inl less) more = omega (arith, one n less, all_ones n w (λ i l. one i (omega arith)))
    go (inr le) more = omega (arith, none n le (omega arith), more le)

-- 1 for a lesser key
abbrev less_than : {K : Type 0} → (K → K → Ordering) → K → K → ℕ
less_than cmp k x = cond (is_lt (cmp x k)) 1 0

module _ {K : Type 0} (cmp : K → K → Ordering) (total : IsTotalOrder cmp) (key : ℕ → K) (n : ℕ) (xs : List (K × ℕ)) (same : IsPermutation (keyed key n) xs)
    (sorted : IsSorted (λ (x y : K × ℕ). ordering_then (cmp x.0 y.0) (nat_cmp x.1 y.1)) xs) (untied : AllAdjacentBelow (λ (x y : K × ℕ). cmp x.0 y.0 ≢ Equal) xs (length xs)) where
  pub long : length xs ≡ n
  long = length_permutation _ _ same ∙ length-keyed key n

  pub each_member : All (λ (x : K × ℕ). (x.1 < n) × (x.0 ≡ key x.1)) xs
  each_member = All-permutation (λ (x : K × ℕ). (x.1 < n) × (x.0 ≡ key x.1)) _ _ same (AreMembers key n)

  rises : (k : ℕ) (d : K × ℕ) → k + 1 < length xs → cmp (get_or xs k d).0 (get_or xs (k + 1) d).0 ≡ Less
  rises k d h = total.antisymm _ _ ∙ go (cmp (get_or xs (k + 1) d).0 (get_or xs k d).0) refl (sorted k d (omega arith) h)
    where
      go : (o : Ordering) → cmp (get_or xs (k + 1) d).0 (get_or xs k d).0 ≡ o → is_lt (ordering_then o (nat_cmp (get_or xs (k + 1) d).1 (get_or xs k d).1)) ≡ false → ordering_reverse o ≡ Less
      go Less e g = absurd (true≢false g)
      go Equal e g = absurd (untied k d h (total.antisymm _ _ ∙ ap ordering_reverse e))
      go Greater e g = refl

  pub all_rise : (i j : ℕ) (d : K × ℕ) → i < j → j < length xs → cmp (get_or xs i d).0 (get_or xs j d).0 ≡ Less
  all_rise i j d l h = Less-from_sorted (on (λ (x : K × ℕ). x.0) cmp) xs i j d (sorted_from_all_adjacent (on_total (λ (x : K × ℕ). x.0) total) xs d (λ k g. rises k d g)) l h

  pub members_apart : AllPairs (λ (x y : K × ℕ). x.1 ≢ y.1) xs
  members_apart i j d l h e =
      let x = each_member i d (omega arith) in
      let y = each_member j d h in
      let keys : (get_or xs i d).0 ≡ (get_or xs j d).0 = x.1 ∙ (ap key e ∙ sym y.1) in
      let equal : Less ≡ Equal = sym (all_rise i j d l h) ∙ (ap (λ k. cmp k (get_or xs j d).0) keys ∙ tied_itself total (get_or xs j d).0) in
      cc

  not_less : (i j : ℕ) (d : K × ℕ) → j ≤ i → i < length xs → is_lt (cmp (get_or xs i d).0 (get_or xs j d).0) ≡ false
  not_less i j d l h = go (cases_lt j i)
    where
      go : (j < i) ⊎ (i ≤ j) → is_lt (cmp (get_or xs i d).0 (get_or xs j d).0) ≡ false
      go (inl less) = ap is_lt (total.antisymm (get_or xs i d).0 (get_or xs j d).0 ∙ ap ordering_reverse (all_rise j i d less h))
      go (inr le) = let e : i ≡ j = omega arith in ap is_lt (ap (λ m. cmp (get_or xs m d).0 (get_or xs j d).0) e ∙ tied_itself total (get_or xs j d).0)

  pub number_at : (j : ℕ) (d : K × ℕ) → j < length xs → rank cmp key n (get_or xs j d).1 ≡ j + 1
  number_at j d h =
      let k = (get_or xs j d).0 in
      let own : key (get_or xs j d).1 ≡ k = sym (each_member j d h).1 in
      let counted : sum_below n (λ i. less_than cmp k (key i)) ≡ j =
      sym (sum_by-keyed key (less_than cmp k) n) ∙ (sym (sum_by-IsPermutation (λ (x : K × ℕ). less_than cmp k x.0) (keyed key n) xs same) ∙ (sum_by-below (λ (x : K × ℕ). less_than cmp k x.0) xs d
      ∙ below_count (length xs) j (λ i. less_than cmp k (get_or xs i d).0) (λ i l. ap (λ (o : Ordering). cond {A = ℕ} (is_lt o) 1 0) (all_rise i j d l h)) (λ i l g. ap (λ (b : Bool). cond {A = ℕ} b 1 0) (not_less i j d l g)) (omega arith))) in
      subst (λ x. sum_below n (λ i. less_than cmp x (key i)) + 1 ≡ j + 1) (sym own) (ap (λ (s : ℕ). s + 1) counted)

  -- the place of a member
  pub place_of : (m : ℕ) → m < n → (j : ℕ) × (j < length xs) × (get_or xs j (key m, m) ≡ (key m, m))
  place_of m h = Contains-permutation (keyed key n) xs (key m, m) same (has_member key n m h)

  -- so no two members tie
  pub keys_apart : (i k : ℕ) → i < k → k < n → cmp (key i) (key k) ≢ Equal
  keys_apart i k l h e = go (cases_order x.0 y.0)
    where
      x : (j : ℕ) × (j < length xs) × (get_or xs j (key i, i) ≡ (key i, i))
      x = place_of i (omega arith)

      y : (j : ℕ) × (j < length xs) × (get_or xs j (key k, k) ≡ (key k, k))
      y = place_of k h

      y-is : get_or xs y.0 (key i, i) ≡ (key k, k)
      y-is = get_or_default xs y.0 (key i, i) (key k, k) y.1 ∙ y.2

      go : (x.0 ≡ y.0) ⊎ ((x.0 < y.0) ⊎ (y.0 < x.0)) → ⊥
      go (inl same) = let f : i ≡ k = ap (λ (p : K × ℕ). p.1) (sym x.2 ∙ (ap (λ j. get_or xs j (key i, i)) same ∙ y-is)) in omega arith
      go (inr (inl less)) =
          let f : cmp (key i) (key k) ≡ Less = subst (λ (p : K × ℕ). cmp (key i) p.0 ≡ Less) y-is (subst (λ (p : K × ℕ). cmp p.0 (get_or xs y.0 (key i, i)).0 ≡ Less) x.2 (all_rise x.0 y.0 (key i, i) less y.1)) in
          let g : Less ≡ Equal = sym f ∙ e in
          cc
      go (inr (inr more)) =
          let f : cmp (key k) (key i) ≡ Less = subst (λ (p : K × ℕ). cmp (key k) p.0 ≡ Less) x.2 (subst (λ (p : K × ℕ). cmp p.0 (get_or xs x.0 (key i, i)).0 ≡ Less) y-is (all_rise y.0 x.0 (key i, i) more x.1)) in
          let g : Less ≡ Equal = sym f ∙ tied_back total (key i) (key k) e in
          cc

  -- what is written at the places is the numbers
  pub numbers_are : (numbers : List ℕ) → ((i : ℕ) (d : K × ℕ) → i < length xs → get_or numbers (get_or xs i d).1 0 ≡ i + 1) → (m : ℕ) → m < n → get_or numbers m 0 ≡ rank cmp key n m
  numbers_are numbers written m h =
      let x = place_of m h in
      subst (λ (p : K × ℕ). get_or numbers p.1 0 ≡ rank cmp key n p.1) x.2 (written x.0 (key m, m) x.1 ∙ sym (number_at x.0 (key m, m) x.1))

  -- each number is written for some member
  pub numbers_onto : (numbers : List ℕ) → ((i : ℕ) (d : K × ℕ) → i < length xs → get_or numbers (get_or xs i d).1 0 ≡ i + 1) → (i : ℕ) → i < n → (m : ℕ) × (m < n) × (get_or numbers m 0 ≡ i + 1)
  numbers_onto numbers written i h =
      let here : i < length xs = omega (arith, long) in
      let d : K × ℕ = (key 0, 0) in
      ((get_or xs i d).1, (each_member i d here).0, written i d here)

pub along_permutation : {K : Type 0} (key : ℕ → K) (n : ℕ) (xs ys : List (K × ℕ)) → xs ≡ ys → IsPermutation (keyed key n) ys → IsPermutation (keyed key n) xs
along_permutation key n xs ys e h = subst (λ l. IsPermutation (keyed key n) l) (sym e) h

pub along_sorted : {K : Type 0} (cmp : K → K → Ordering) (xs ys : List (K × ℕ)) → xs ≡ ys → IsSorted (λ (x y : K × ℕ). ordering_then (cmp x.0 y.0) (nat_cmp x.1 y.1)) ys → IsSorted (λ (x y : K × ℕ). ordering_then (cmp x.0 y.0) (nat_cmp x.1 y.1)) xs
along_sorted cmp xs ys e h = subst (λ l. IsSorted (λ (x y : _ × ℕ). ordering_then (cmp x.0 y.0) (nat_cmp x.1 y.1)) l) (sym e) h
