-- Members of which no two have one key have a ranking.
use Rattle.std.proofs.Common.{◌≡◌, ◌≢◌, ℕ, zero, suc, ◌+◌, ◌-◌, ◌<◌, ◌≤◌, ◌⊎◌, inl, inr, false, true≢false, List, [], ◌∷◌, ◌++◌, map, length, get_or, refl, ap, ◌∙◌, subst, arith, add-one, IsPermutation, IsSorted, Ordering, Less, Equal, Greater, is_lt, is_gt, nat_cmp}
use Rattle.std.specs.List.{AllAdjacentBelow}
use Rattle.std.specs.Cmp.{IsTotalOrder}
use Rattle.std.specs.Ordering.{ordering_then, ordering_reverse}
use Rattle.std.proofs.lemmas.Bool.{cases_lt, cases_order}
use Rattle.std.proofs.lemmas.Cmp.{on_total, then_total, nat_cmp_total, tied_back}
use Rattle.std.proofs.lemmas.List.{get_or-map, get_or_append_left, get_or_push, get_or_default, length-map, length_push}
use Rattle.std.proofs.lemmas.List.Sorted.{IsPermutation-sym}
use Rattle.edi_schema.specs.Sorted.{sort_by, NeverFalls}
use Rattle.edi_schema.proofs.SortedLists.{IsPermutation-sort_by, NeverFalls-sort_by}
use Rattle.edi_topo.specs.Ranking.{keyed, IsRanking, Ties, rank}
use Rattle.edi_topo.proofs.KeyOrder.{long, each_member, number_at}
use Rattle.edi_topo.proofs.KeyTies.{follower_ties}
use Rattle.edi_topo.proofs.RankOrder.{rank_within, equal_ranks}

-- ---- a list by a function of the place

abbrev firsts : ℕ → List ℕ
firsts zero = []
firsts (suc n) = firsts n ++ n ∷ []

length-firsts : (n : ℕ) → length (firsts n) ≡ n
length-firsts zero = refl
length-firsts (suc n) = length_push (firsts n) n ∙ (rw (length-firsts n) (omega arith))

firsts_at : (n k : ℕ) → k < n → get_or (firsts n) k 0 ≡ k
firsts_at zero k h = absurd (omega arith)
firsts_at (suc n) k h = go (cases_lt k n) (firsts_at n k)
  where
    go : (k < n) ⊎ (n ≤ k) → (k < n → get_or (firsts n) k 0 ≡ k) → get_or (firsts n ++ n ∷ []) k 0 ≡ k
    go (inl less) more = get_or_append_left (firsts n) (n ∷ []) 0 k (omega (arith, less, length-firsts n)) ∙ more less
    go (inr le) more =
        let e : n ≡ k = omega (arith, le, h) in
        subst (λ j. get_or (firsts n ++ n ∷ []) j 0 ≡ j) e (get_or_push (firsts n) n 0 n (length-firsts n))

abbrev pub listed : {X : Type 0} → (ℕ → X) → ℕ → List X
listed f n = map f (firsts n)

pub length-listed : {X : Type 0} (f : ℕ → X) (n : ℕ) → length (listed f n) ≡ n
length-listed f n = length-map (firsts n) f ∙ length-firsts n

pub listed_at : {X : Type 0} (f : ℕ → X) (n k : ℕ) (d : X) → k < n → get_or (listed f n) k d ≡ f k
listed_at f n k d h = get_or-map f (firsts n) k 0 d (let all = length-firsts n in omega (arith, h, all)) ∙ ap f (firsts_at n k h)

-- ---- what never falls is sorted

module _ {X : Type 0} (cmp : X → X → Ordering) (total : IsTotalOrder cmp) where
  not_below : (o : Ordering) → is_gt o ≡ false → is_lt (ordering_reverse o) ≡ false
  not_below Less h = refl
  not_below Equal h = refl
  not_below Greater h = absurd (true≢false h)

  pub sorted_from_never_falls : (xs : List X) → NeverFalls cmp xs → IsSorted cmp xs
  sorted_from_never_falls [] up k d p q = absurd (omega (arith, q))
  sorted_from_never_falls (x ∷ []) up k d p q = absurd (omega (arith, q))
  sorted_from_never_falls (x ∷ y ∷ xs) up zero d p q = ap is_lt (total.antisymm y x) ∙ not_below (cmp x y) up.0.0
  sorted_from_never_falls (x ∷ y ∷ xs) up (suc k) d p q = rw add-one (rw add-one at (sorted_from_never_falls (y ∷ xs) up.1 k d (omega arith) (omega (arith, q))))

-- ---- the ranking

module _ {K : Type 0} (cmp : K → K → Ordering) (total : IsTotalOrder cmp) (key : ℕ → K) (size : ℕ) (distinct : (m : ℕ) → ¬ (Ties cmp key size m)) where
  abbrev pair_cmp : K × ℕ → K × ℕ → Ordering
  pair_cmp x y = ordering_then (cmp x.0 y.0) (nat_cmp x.1 y.1)

  pair_total : IsTotalOrder pair_cmp
  pair_total = then_total (on_total (λ (x : K × ℕ). x.0) total) (on_total (λ (x : K × ℕ). x.1) nat_cmp_total)

  abbrev in_order : List (K × ℕ)
  in_order = sort_by pair_cmp (keyed key size)

  same : IsPermutation (keyed key size) in_order
  same = IsPermutation-sym _ _ (IsPermutation-sort_by pair_cmp pair_total (keyed key size))

  sorted : IsSorted pair_cmp in_order
  sorted = sorted_from_never_falls pair_cmp pair_total in_order (NeverFalls-sort_by pair_cmp pair_total (keyed key size))

  untied : AllAdjacentBelow (λ (x y : K × ℕ). cmp x.0 y.0 ≢ Equal) in_order (length in_order)
  untied k d h e = distinct (get_or in_order (k + 1) d).1 (follower_ties cmp total key size in_order same sorted (get_or in_order (k + 1) d).1 (record {
    place = k;
    within = h;
    seen = h;
    repeats = λ c. subst (λ (x : K × ℕ). cmp x.0 (get_or in_order (k + 1) c).0 ≡ Equal) (get_or_default in_order k d c (omega (arith, h)))
        (subst (λ (y : K × ℕ). cmp (get_or in_order k d).0 y.0 ≡ Equal) (get_or_default in_order (k + 1) d c h) e);
    is = λ c. ap (λ (x : K × ℕ). x.1) (get_or_default in_order (k + 1) c d h);
  }))

  abbrev pub ranking : List ℕ
  ranking = listed (rank cmp key size) size

  -- the member with a number
  abbrev pub member_numbered : ℕ → ℕ
  member_numbered i = (get_or in_order i (key 0, 0)).1

  numbered_within : (i : ℕ) → i < size → member_numbered i < size
  numbered_within i h = let all = long cmp total key size in_order same sorted untied in (each_member cmp total key size in_order same sorted untied i (key 0, 0) (omega (arith, h, all))).0

  number_is : (i : ℕ) → i < size → rank cmp key size (member_numbered i) ≡ i + 1
  number_is i h = let all = long cmp total key size in_order same sorted untied in number_at cmp total key size in_order same sorted untied i (key 0, 0) (omega (arith, h, all))

  pub is_ranking : IsRanking cmp key size ranking
  is_ranking = record {
    distinct = distinct;
    all = length-listed (rank cmp key size) size;
    each = λ m h. listed_at (rank cmp key size) size m 0 h;
    onto = λ i h. (member_numbered i, numbered_within i h, listed_at (rank cmp key size) size (member_numbered i) 0 (numbered_within i h) ∙ number_is i h);
  }

  -- what the members have, by their numbers
  abbrev pub by_number : List ℕ → List ℕ
  by_number places = listed (λ i. get_or places (member_numbered i) 0) size

  pub numbered_back : (places : List ℕ) (m : ℕ) → m < size → get_or (by_number places) (get_or ranking m 0 - 1) 0 ≡ get_or places m 0
  numbered_back places m h =
      let number : get_or ranking m 0 ≡ rank cmp key size m = listed_at (rank cmp key size) size m 0 h in
      let within : get_or ranking m 0 - 1 < size = omega (arith, number, rank_within cmp total key size m h) in
      let again : rank cmp key size (member_numbered (get_or ranking m 0 - 1)) ≡ rank cmp key size m =
      omega (arith, number_is (get_or ranking m 0 - 1) within, number) in
      let there = numbered_within (get_or ranking m 0 - 1) within in
      let member : member_numbered (get_or ranking m 0 - 1) ≡ m = one_member (member_numbered (get_or ranking m 0 - 1)) m there h (equal_ranks cmp total key size (member_numbered (get_or ranking m 0 - 1)) m there h again) in
      listed_at (λ i. get_or places (member_numbered i) 0) size (get_or ranking m 0 - 1) 0 within ∙ ap (λ n. get_or places n 0) member
    where
      one_member : (a b : ℕ) → a < size → b < size → cmp (key a) (key b) ≡ Equal → a ≡ b
      one_member a b h g tie = go (cases_order a b)
        where
          go : (a ≡ b) ⊎ ((a < b) ⊎ (b < a)) → a ≡ b
          go (inl e) = e
          go (inr (inl less)) = absurd (distinct b (g, (a, less, tie)))
          go (inr (inr more)) = absurd (distinct a (h, (b, more, tied_back total (key a) (key b) tie)))
