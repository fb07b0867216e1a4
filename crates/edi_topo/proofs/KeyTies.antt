-- In the order of the keys, the members that follow one with their key are those with the key of an earlier one.
use Rattle.std.proofs.Common.{◌≡◌, ◌≢◌, ℕ, zero, suc, ◌+◌, ◌-◌, ◌<◌, ◌≤◌, ◌⊎◌, inl, inr, Bool, true, false, true≢false, nat_eq, List, [], ◌∷◌, length, get_or, refl, sym, ap, ◌∙◌, subst, arith, All, IsPermutation, IsSorted, Ordering, Less, Equal, Greater, is_lt, is_gt, nat_cmp, eq-eqb, ne_eqb}
use Rattle.std.specs.List.{list_any, AllByRecursion, IsDistinct}
use Rattle.std.specs.Cmp.{IsTotalOrder, IsEquivalence}
use Rattle.std.specs.Ordering.{ordering_then, ordering_reverse}
use Rattle.std.proofs.lemmas.Bool.{cases_order}
use Rattle.std.proofs.lemmas.Cmp.{on_total, then_total, nat_cmp_total, on_equiv, nat_eq_equiv, tied_back}
use Rattle.std.proofs.lemmas.List.{get_or_default}
use Rattle.std.proofs.lemmas.List.Elements.{recursion_from_All}
use Rattle.std.proofs.lemmas.List.Sorted.{All-permutation, Contains-permutation, length_permutation, ranks_by, sorted_far}
use Rattle.std.proofs.lemmas.Map.Keys.{IsDistinct-push, IsDistinct-IsPermutation, apart_from_distinct}
use Rattle.edi_topo.specs.Marks.{AreMarksOf}
use Rattle.edi_topo.specs.Ranking.{keyed, HasItsKey, IsFirstTie, Ties}
use Rattle.edi_topo.specs.declared.fault.Tied.{Tied}
use Rattle.edi_topo.specs.inner.Keyed.{IsLeastRepeat, FollowsItsKey}
use Rattle.edi_topo.proofs.KeyOrder.{has_member, length-keyed, AreMembers}

module _ {K : Type 0} (key : ℕ → K) where
  same_member : K × ℕ → K × ℕ → Bool
  same_member x y = nat_eq x.1 y.1

  same_member_equiv : IsEquivalence same_member
  unfolding same_member
  same_member_equiv = on_equiv (λ (x : K × ℕ). x.1) nat_eq_equiv

  none_equal : (n : ℕ) (xs : List (K × ℕ)) → AllByRecursion (λ (x : K × ℕ). (x.1 < n) × (x.0 ≡ key x.1)) xs → list_any (same_member (key n, n)) xs ≡ false
  unfolding same_member
  none_equal n [] all = refl
  none_equal n (x ∷ xs) all = rw (ne_eqb n x.1 (λ e. omega (arith, all.0.0))) (none_equal n xs all.1)

  keyed_distinct : (n : ℕ) → IsDistinct same_member (keyed key n)
  unfolding IsDistinct
  keyed_distinct zero = tt
  keyed_distinct (suc n) = IsDistinct-push same_member_equiv (keyed key n) (key n, n) (keyed_distinct n) (none_equal n (keyed key n) (recursion_from_All (λ (x : K × ℕ). (x.1 < n) × (x.0 ≡ key x.1)) (keyed key n) (AreMembers key n)))

  flips : (x y : K × ℕ) → same_member x y ≡ same_member y x
  flips x y = same_member_equiv.symm x y

  apart_members : (n : ℕ) (xs : List (K × ℕ)) → IsPermutation (keyed key n) xs → (i j : ℕ) (d : K × ℕ) → i < j → j < length xs → (get_or xs i d).1 ≢ (get_or xs j d).1
  unfolding same_member
  apart_members n xs same i j d l h e =
      true≢false (sym (eq-eqb (get_or xs i d).1 (get_or xs j d).1 e) ∙ apart_from_distinct same_member xs i j d (IsDistinct-IsPermutation same_member flips (keyed key n) xs same (keyed_distinct n)) l h)

module _ {K : Type 0} (cmp : K → K → Ordering) (total : IsTotalOrder cmp) (key : ℕ → K) (n : ℕ) (xs : List (K × ℕ)) (same : IsPermutation (keyed key n) xs)
    (sorted : IsSorted (λ (x y : K × ℕ). ordering_then (cmp x.0 y.0) (nat_cmp x.1 y.1)) xs) where
  pair_total : IsTotalOrder (λ (x y : K × ℕ). ordering_then (cmp x.0 y.0) (nat_cmp x.1 y.1))
  pair_total = then_total (on_total (λ (x : K × ℕ). x.0) total) (on_total (λ (x : K × ℕ). x.1) nat_cmp_total)

  far : (i j : ℕ) (d : K × ℕ) → i ≤ j → j < length xs → is_lt (ordering_then (cmp (get_or xs j d).0 (get_or xs i d).0) (nat_cmp (get_or xs j d).1 (get_or xs i d).1)) ≡ false
  far i j d l h = sorted_far _ (ranks_by pair_total (λ (x : K × ℕ). x)) xs sorted i j d l h

  first_not_less : (o p : Ordering) → is_lt (ordering_then o p) ≡ false → is_gt (ordering_reverse o) ≡ false
  first_not_less Less p h = absurd (true≢false h)
  first_not_less Equal p h = refl
  first_not_less Greater p h = refl

  at_most : (i j : ℕ) (d : K × ℕ) → i ≤ j → j < length xs → is_gt (cmp (get_or xs i d).0 (get_or xs j d).0) ≡ false
  at_most i j d l h = ap is_gt (total.antisymm _ _) ∙ first_not_less _ _ (far i j d l h)

  each : All (λ (x : K × ℕ). (x.1 < n) × (x.0 ≡ key x.1)) xs
  each = All-permutation (λ (x : K × ℕ). (x.1 < n) × (x.0 ≡ key x.1)) _ _ same (AreMembers key n)

  less_of : (x y : ℕ) → x < y → nat_cmp x y ≡ Less
  less_of x y h = rw (Rattle.std.proofs.Common.lt-ltb x y h)

  -- what lies between two that tie, ties
  between : (a b c : K) → cmp a c ≡ Equal → is_gt (cmp a b) ≡ false → is_gt (cmp b c) ≡ false → cmp b c ≡ Equal
  between a b c e h g = go (cmp b c) (cmp a b) refl refl g h
    where
      go : (o p : Ordering) → cmp b c ≡ o → cmp a b ≡ p → is_gt o ≡ false → is_gt p ≡ false → o ≡ Equal
      go Less Less o-is p-is g h = let f : Less ≡ Equal = sym (total.trans a b c p-is o-is) ∙ e in cc
      go Less Equal o-is p-is g h = sym o-is ∙ (sym (total.congr a b c p-is) ∙ e)
      go Less Greater o-is p-is g h = absurd (true≢false h)
      go Equal p o-is p-is g h = refl
      go Greater p o-is p-is g h = absurd (true≢false g)

  module _ (m : ℕ) (r : FollowsItsKey cmp xs (length xs) m) where
    abbrev at : ℕ → K × ℕ
    at i = get_or xs i (key m, m)

    last_is : (at (r.place + 1)).1 ≡ m
    last_is = r.is (key m, m)

    keys_tie : cmp (key (at r.place).1) (key m) ≡ Equal
    keys_tie = subst (λ k. cmp k (key m) ≡ Equal) (each r.place (key m, m) (omega (arith, r.within))).1
        (subst (λ k. cmp (at r.place).0 k ≡ Equal) ((each (r.place + 1) (key m, m) r.within).1 ∙ ap key last_is) (r.repeats (key m, m)))

    earlier : (at r.place).1 < m
    earlier = go (cases_order (at r.place).1 (at (r.place + 1)).1)
      where
        go : ((at r.place).1 ≡ (at (r.place + 1)).1) ⊎ (((at r.place).1 < (at (r.place + 1)).1) ⊎ ((at (r.place + 1)).1 < (at r.place).1)) → (at r.place).1 < m
        go (inl e) = absurd (apart_members key n xs same r.place (r.place + 1) (key m, m) (omega arith) r.within e)
        go (inr (inl less)) = omega (arith, last_is)
        go (inr (inr more)) =
            let back = tied_back total _ _ (r.repeats (key m, m)) in
            let f : is_lt (nat_cmp (at (r.place + 1)).1 (at r.place).1) ≡ false = subst (λ o. is_lt (ordering_then o (nat_cmp (at (r.place + 1)).1 (at r.place).1)) ≡ false) back (far r.place (r.place + 1) (key m, m) (omega arith) r.within) in
            absurd (true≢false (sym (ap is_lt (less_of _ _ more)) ∙ f))

    -- a member that follows one with its key has the key of an earlier one
    pub follower_ties : Ties cmp key n m
    follower_ties = (subst (λ k. k < n) last_is (each (r.place + 1) (key m, m) r.within).0, ((at r.place).1, earlier, keys_tie))

  place_of : (i : ℕ) → i < n → (j : ℕ) × (j < length xs) × ((d : K × ℕ) → get_or xs j d ≡ (key i, i))
  place_of i h =
      let c = Contains-permutation (keyed key n) xs (key i, i) same (has_member key n i h) in
      (c.0, c.1, λ d. get_or_default xs c.0 d (key i, i) c.1 ∙ c.2)

  -- a member with the key of an earlier one follows one with its key
  pub tie_follows : (m : ℕ) → Ties cmp key n m → FollowsItsKey cmp xs (length xs) m
  tie_follows m t = go (cases_order x.0 y.0)
    where
      x : (j : ℕ) × (j < length xs) × ((d : K × ℕ) → get_or xs j d ≡ (key t.1.0, t.1.0))
      x = place_of t.1.0 (omega (arith, t.0, t.1.1))

      y : (j : ℕ) × (j < length xs) × ((d : K × ℕ) → get_or xs j d ≡ (key m, m))
      y = place_of m t.0

      tie : (d : K × ℕ) → cmp (get_or xs x.0 d).0 (get_or xs y.0 d).0 ≡ Equal
      tie d = subst (λ (p : K × ℕ). cmp p.0 (get_or xs y.0 d).0 ≡ Equal) (sym (x.2 d)) (subst (λ (p : K × ℕ). cmp (key t.1.0) p.0 ≡ Equal) (sym (y.2 d)) t.1.2)

      member : (d : K × ℕ) → (get_or xs y.0 d).1 ≡ m
      member d = ap (λ (p : K × ℕ). p.1) (y.2 d)

      earlier_member : (d : K × ℕ) → (get_or xs x.0 d).1 ≡ t.1.0
      earlier_member d = ap (λ (p : K × ℕ). p.1) (x.2 d)

      near : (d : K × ℕ) → x.0 < y.0 → cmp (get_or xs (y.0 - 1) d).0 (get_or xs y.0 d).0 ≡ Equal
      near d less = between (get_or xs x.0 d).0 (get_or xs (y.0 - 1) d).0 (get_or xs y.0 d).0 (tie d) (at_most x.0 (y.0 - 1) d (omega arith) (omega (arith, y.1))) (at_most (y.0 - 1) y.0 d (omega arith) y.1)

      go : (x.0 ≡ y.0) ⊎ ((x.0 < y.0) ⊎ (y.0 < x.0)) → FollowsItsKey cmp xs (length xs) m
      go (inl e) = absurd (omega (arith, t.1.1, sym (member (key m, m)) ∙ (ap (λ j. (get_or xs j (key m, m)).1) (sym e) ∙ earlier_member (key m, m))))
      go (inr (inl less)) =
          let round : y.0 - 1 + 1 ≡ y.0 = omega arith in
          let within : y.0 - 1 + 1 < length xs = subst (λ j. j < length xs) (sym round) y.1 in
          record {
            place = y.0 - 1;
            within = within;
            seen = within;
            repeats = λ d. subst (λ j. cmp (get_or xs (y.0 - 1) d).0 (get_or xs j d).0 ≡ Equal) (sym round) (near d less);
            is = λ d. ap (λ j. (get_or xs j d).1) round ∙ member d;
          }
      go (inr (inr more)) =
          let d : K × ℕ = (key m, m) in
          let f = far y.0 x.0 d (omega arith) x.1 in
          let g : is_lt (nat_cmp (get_or xs x.0 d).1 (get_or xs y.0 d).1) ≡ false = subst (λ o. is_lt (ordering_then o (nat_cmp (get_or xs x.0 d).1 (get_or xs y.0 d).1)) ≡ false) (tie d) f in
          let less : (get_or xs x.0 d).1 < (get_or xs y.0 d).1 = omega (arith, t.1.1, member d, earlier_member d) in
          absurd (true≢false (sym (ap is_lt (less_of _ _ less)) ∙ g))

  pub first_tie_is : (tied : Tied) → IsLeastRepeat cmp xs (length xs) tied → IsFirstTie cmp key n tied
  first_tie_is tied r = record {
    ties = tie;
    least = none_before;
    earlier = record { is = own; least = λ k h. go k h (cases_order tied.earlier k) };
  }
    where
      follows : FollowsItsKey cmp xs (length xs) tied.member
      follows = record { place = r.place; within = r.within; seen = r.within; repeats = r.repeats; is = r.is }

      tie : Ties cmp key n tied.member
      tie = follower_ties tied.member follows

      own : HasItsKey cmp key n tied.member tied.earlier
      own = subst (HasItsKey cmp key n tied.member) (r.before (key tied.member, tied.member)) (earlier tied.member follows, keys_tie tied.member follows)

      none_before : (m : ℕ) → Ties cmp key n m → tied.member ≤ m
      none_before m t = let f = tie_follows m t in omega (arith, f.is (key m, m), r.least f.place (key m, m) f.within (f.repeats (key m, m)))

      -- an earlier one with the key would make a lesser tie of the one before
      go : (k : ℕ) → HasItsKey cmp key n tied.member k → (tied.earlier ≡ k) ⊎ ((tied.earlier < k) ⊎ (k < tied.earlier)) → tied.earlier ≤ k
      go k h (inl e) = omega (arith, e)
      go k h (inr (inl less)) = omega (arith, less)
      go k h (inr (inr more)) =
          let same : cmp (key k) (key tied.earlier) ≡ Equal = total.congr (key k) (key tied.member) (key tied.earlier) h.1 ∙ tied_back total (key tied.earlier) (key tied.member) own.1 in
          absurd (omega (arith, own.0, none_before tied.earlier (omega (arith, own.0, tie.0), (k, more, same))))

  long : length xs ≡ n
  long = length_permutation _ _ same ∙ length-keyed key n

  pub members_fit : All (λ (x : K × ℕ). x.1 < length xs) xs
  members_fit k d h = subst (λ j. (get_or xs k d).1 < j) (sym long) (each k d h).0

  -- marks of the members that follow one with their key are marks of those that tie
  pub marks_tie : (marks : List Bool) → AreMarksOf (length xs) (FollowsItsKey cmp xs (length xs)) marks → AreMarksOf n (Ties cmp key n) marks
  marks_tie marks are = record {
    all = are.all ∙ long;
    each = λ m. (λ t. follower_ties m ((are.each m).0 t), λ t. (are.each m).1 (tie_follows m t));
  }
