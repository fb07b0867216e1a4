-- What links join a record with stands in a row, where it is in order.
use Rattle.std.proofs.Common.{◌≡◌, ◌≢◌, ◌∙◌, ℕ, zero, suc, ◌+◌, ◌<◌, ◌≤◌, Bool, true, false, cond, List, [], ◌∷◌, ◌++◌, map, length, drop, get_or, filter, IsSorted, refl, sym, ap, subst, arith, eqb, ltb, nat_cmp}
use Rattle.std.specs.List.Sorted.{IsNonDecreasingBy}
use Rattle.std.specs.Ordering.{ordering_then}
use Rattle.std.proofs.lemmas.Bool.{eq-eqb, ltb-false, ltb-true, ne_eqb}
use Rattle.std.proofs.lemmas.List.{append-nil, append_assoc, at_drop_all, at_drop_more, get_or-drop, get_or_default, length-drop}
use Rattle.std.proofs.lemmas.List.Sorted.{IsNonDecreasingBy-drop, IsNonDecreasingBy-from_sort}
use Rattle.edi_line.proofs.Truths.{first_not_less}
use Rattle.edi_diff.specs.declared.proposing.LinkClass.{LinkClass}
use Rattle.edi_diff.specs.contracts.proposing.LinkClassOrd.TheImpl.{ghosts as link_classes}
use Rattle.edi_diff.specs.inner.Joints.{joined_with, joint_cmp}
use Rattle.edi_diff.proofs.Alone.{none_pass}

abbrev pub Joint : Type 0
Joint = ℕ × (LinkClass × ℕ)

-- in order they go by their codes
pub codes_rise : (joints : List Joint) → IsSorted joint_cmp joints → IsNonDecreasingBy (λ (x : Joint). x.0) joints
codes_rise joints sorted = IsNonDecreasingBy-from_sort (λ (x : Joint). x.0) joints (λ k d low high.
    first_not_less (nat_cmp (get_or joints (k + 1) d).0 (get_or joints k d).0)
    (ordering_then (link_classes.cmp (get_or joints (k + 1) d).1.0 (get_or joints k d).1.0) (nat_cmp (get_or joints (k + 1) d).1.1 (get_or joints k d).1.1)) (sorted k d low high))

module _ (code : ℕ) where
  abbrev has : Joint → Bool
  has x = eqb x.0 code

  -- those before the first with the code
  pub none_before : (joints : List Joint) (n : ℕ) → ((k : ℕ) (d : Joint) → 0 ≤ k → k < n → ltb (get_or joints k d).0 code ≡ true) → joined_with (drop n joints) code ≡ joined_with joints code
  none_before joints zero less = refl
  none_before [] (suc n) less = refl
  none_before (x ∷ joints) (suc n) less =
      let below = ltb-true x.0 code (less zero x (omega arith) (omega arith)) in
      let no : eqb x.0 code ≡ false = ne_eqb x.0 code (λ same. omega (arith, below, same)) in
      none_before joints n (λ k d low high. less (suc k) d (omega arith) (omega arith))
      ∙ ap (λ (b : Bool). map (λ (y : Joint). y.1) (cond b (x ∷ filter has joints) (filter has joints))) (sym no)

  module _ (joints : List Joint) (n : ℕ) where
    names_step : (x : Joint) → n < length joints → x ≡ get_or joints n x
        → joined_with (drop n joints) code ≡ map (λ (y : Joint). y.1) (cond (has x) (x ∷ filter has (drop (n + 1) joints)) (filter has (drop (n + 1) joints)))
    names_step x h e =
        at_drop_more (λ (xs : List Joint). joined_with xs code) joints n x h
        ∙ ap (λ (z : Joint). map (λ (y : Joint). y.1) (cond (has z) (z ∷ filter has (drop (n + 1) joints)) (filter has (drop (n + 1) joints)))) (sym e)

    pub name_here : (x : Joint) → n < length joints → x ≡ get_or joints n x → x.0 ≡ code → joined_with (drop n joints) code ≡ x.1 ∷ joined_with (drop (n + 1) joints) code
    name_here x h e same = names_step x h e ∙ ap (λ (b : Bool). map (λ (y : Joint). y.1) (cond b (x ∷ filter has (drop (n + 1) joints)) (filter has (drop (n + 1) joints)))) (eq-eqb x.0 code same)

    pub names_over : length joints ≤ n → joined_with (drop n joints) code ≡ []
    names_over h = at_drop_all (λ (xs : List Joint). joined_with xs code) joints n h

    -- from the first with a greater code on there are none
    pub none_behind : IsNonDecreasingBy (λ (x : Joint). x.0) joints → (x : Joint) → n < length joints → x ≡ get_or joints n x → code ≤ x.0 → x.0 ≢ code → joined_with (drop n joints) code ≡ []
    none_behind rise x h e least ne = ap (map (λ (y : Joint). y.1)) (none_pass has (drop n joints) (λ k d within.
        let there : n + k < length joints = omega (arith, within, length-drop n joints) in
        let up : x.0 ≤ (get_or joints (n + k) d).0 = subst (λ (m : ℕ). m ≤ (get_or joints (n + k) d).0) (ap (λ (y : Joint). y.0) (get_or_default joints n d x h ∙ sym e)) (rise n (n + k) d (omega arith) there) in
        let is : (get_or (drop n joints) k d).0 ≡ (get_or joints (n + k) d).0 = ap (λ (y : Joint). y.0) (get_or-drop n joints k d) in
        ne_eqb (get_or (drop n joints) k d).0 code (λ same. ne (omega (arith, same, is, up, least)))))

  -- so a row that has ended has them all
  pub names_done : (joints behind : List Joint) (first n : ℕ) (names : List (LinkClass × ℕ)) → behind ≡ drop first joints
      → ((k : ℕ) (d : Joint) → 0 ≤ k → k < first → ltb (get_or joints k d).0 code ≡ true) → joined_with (drop n behind) code ≡ [] → names ++ joined_with (drop n behind) code ≡ joined_with behind code
      → names ≡ joined_with joints code
  names_done joints behind first n names is before over so_far =
      sym (append-nil names) ∙ (ap (λ ys. names ++ ys) (sym over) ∙ (so_far ∙ (ap (λ (xs : List Joint). joined_with xs code) is ∙ none_before joints first before)))

  pub names_stop : (joints behind : List Joint) (first n : ℕ) → behind ≡ drop first joints → IsSorted joint_cmp joints
      → ((k : ℕ) (d : Joint) → first ≤ k → k < length joints → ltb (get_or joints k d).0 code ≡ false) → (x : Joint) → n < length behind → x ≡ get_or behind n x → x.0 ≢ code
      → joined_with (drop n behind) code ≡ []
  names_stop joints behind first n is sorted from x h x_is ne =
      let rise : IsNonDecreasingBy (λ (y : Joint). y.0) behind = subst (λ (xs : List Joint). IsNonDecreasingBy (λ (y : Joint). y.0) xs) (sym is) (IsNonDecreasingBy-drop (λ (y : Joint). y.0) first joints (codes_rise joints sorted)) in
      let there : x ≡ get_or joints (first + n) x = x_is ∙ (ap (λ (xs : List Joint). get_or xs n x) is ∙ get_or-drop first joints n x) in
      let within : first + n < length joints = omega (arith, h, ap length is, length-drop first joints) in
      let least : code ≤ x.0 = subst (λ (y : Joint). code ≤ y.0) (sym there) (ltb-false (get_or joints (first + n) x).0 code (from (first + n) x (omega arith) within)) in
      none_behind behind n rise x h x_is least ne

  pub name_more : (behind : List Joint) (n : ℕ) (done new : List (LinkClass × ℕ)) (x : Joint) → n < length behind → x ≡ get_or behind n x → x.0 ≡ code → new ≡ done ++ x.1 ∷ []
      → done ++ joined_with (drop n behind) code ≡ joined_with behind code → new ++ joined_with (drop (n + 1) behind) code ≡ joined_with behind code
  name_more behind n done new x h x_is same is so_far =
      let rest = joined_with (drop (n + 1) behind) code in
      ap (λ ys. ys ++ rest) is ∙ (append_assoc done (x.1 ∷ []) rest ∙ (ap (λ ys. done ++ ys) (sym (name_here behind n x h x_is same)) ∙ so_far))
