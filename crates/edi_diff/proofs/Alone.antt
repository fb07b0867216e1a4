-- In an ordered list of records with their keys those that alone have a key stand side by side.
use Rattle.std.proofs.Common.{◌≡◌, ◌≢◌, ◌∙◌, ◌↔◌, ℕ, zero, suc, ◌+◌, ◌-◌, ◌<◌, ◌≤◌, ◌⊎◌, inl, inr, Bool, true, false, true≢false, cond, List, [], ◌∷◌, ◌++◌, length, filter, Option, Some, None, SomeIff, IsTrue, ◌^◌, Result, IfOk, take, Contains, IsPermutation, IsSorted, get_or, refl, sym, ap, subst, arith, Ordering, Less, Equal, Greater, is_lt, nat_cmp, add-one}
use Rattle.std.specs.Cmp.{IsTotalOrder}
use Rattle.std.specs.List.Sorted.{IsSortedBy}
use Rattle.std.specs.Ordering.{is_eq, ordering_reverse, ordering_then}
use Rattle.std.proofs.lemmas.Bool.{cases_lt}
use Rattle.std.proofs.lemmas.Cmp.{alike_right, tied_back, tied_itself}
use Rattle.std.proofs.lemmas.List.{flat_map_more, get_or_default, get_or_read, take_all, take_more}
use Rattle.std.proofs.lemmas.List.Elements.{Contains-get_or, Contains-append_left, Contains-push, Contains-push_cases, filter_agree}
use Rattle.std.proofs.lemmas.List.Sorted.{Contains-permutation, IsPermutation-sym, ranks_by, sorted_far, sum_by-IsPermutation}
use Rattle.std.proofs.lemmas.List.Sums.{length-filter}
use Rattle.std.proofs.lemmas.Option.{none-some, same_Some}
use Rattle.edi_line.proofs.Truths.{first_not_less, equal_is}
use Rattle.edi_diff.specs.declared.changes.Proposal.{Proposal}
use Rattle.edi_diff.specs.inner.Codes.{is_of_second, place_by, proposal_by, proposal_if}
use Rattle.edi_diff.specs.inner.LonePairs.{AreLoneNeighbours, AreLonePairs, HasKeyAt, IsLoneAt, IsLoneIfAny, IsLonePair, with_keys, with_code, with_key}

-- how many of a list pass a test

module _ {X : Type 0} (p : X → Bool) where
  counted : (b : Bool) (x : X) (rest : List X) → b ≡ true → length (cond b (x ∷ rest) rest) ≡ suc (length rest)
  counted true x rest e = refl
  counted false x rest e = absurd (true≢false (sym e))

  uncounted : (b : Bool) (x : X) (rest : List X) → b ≡ false → cond b (x ∷ rest) rest ≡ rest
  uncounted true x rest e = absurd (true≢false e)
  uncounted false x rest e = refl

  grows : (b : Bool) (x : X) (rest : List X) → length rest ≤ length (cond b (x ∷ rest) rest)
  grows true x rest = omega arith
  grows false x rest = omega arith

  one_passes : (xs : List X) (i : ℕ) (d : X) → i < length xs → p (get_or xs i d) ≡ true → 1 ≤ length (filter p xs)
  one_passes [] i d h e = absurd (omega arith)
  one_passes (x ∷ xs) zero d h e = omega (arith, counted (p x) x (filter p xs) e)
  one_passes (x ∷ xs) (suc i) d h e = omega (arith, one_passes xs i d (omega arith) e, grows (p x) x (filter p xs))

  two_pass : (xs : List X) (i j : ℕ) (d : X) → i < j → j < length xs → p (get_or xs i d) ≡ true → p (get_or xs j d) ≡ true → 2 ≤ length (filter p xs)
  two_pass [] i j d up h e f = absurd (omega arith)
  two_pass (x ∷ xs) i zero d up h e f = absurd (omega arith)
  two_pass (x ∷ xs) zero (suc j) d up h e f = omega (arith, counted (p x) x (filter p xs) e, one_passes xs j d (omega arith) f)
  two_pass (x ∷ xs) (suc i) (suc j) d up h e f = omega (arith, two_pass xs i j d (omega arith) (omega arith) e f, grows (p x) x (filter p xs))

  three_pass : (xs : List X) (i j k : ℕ) (d : X) → i < j → j < k → k < length xs → p (get_or xs i d) ≡ true → p (get_or xs j d) ≡ true → p (get_or xs k d) ≡ true → 3 ≤ length (filter p xs)
  three_pass [] i j k d up on h e f g = absurd (omega arith)
  three_pass (x ∷ xs) i j zero d up on h e f g = absurd (omega arith)
  three_pass (x ∷ xs) i zero (suc k) d up on h e f g = absurd (omega arith)
  three_pass (x ∷ xs) zero (suc j) (suc k) d up on h e f g = omega (arith, counted (p x) x (filter p xs) e, two_pass xs j k d (omega arith) (omega arith) f g)
  three_pass (x ∷ xs) (suc i) (suc j) (suc k) d up on h e f g =
      omega (arith, three_pass xs i j k d (omega arith) (omega arith) (omega arith) e f g, grows (p x) x (filter p xs))

  pub none_pass : (xs : List X) → ((n : ℕ) (d : X) → n < length xs → p (get_or xs n d) ≡ false) → filter p xs ≡ []
  none_pass [] none = refl
  none_pass (x ∷ xs) none = uncounted (p x) x (filter p xs) (none zero x (omega arith)) ∙ none_pass xs (λ n d h. none (suc n) d (omega arith))

  two_alone : (xs : List X) (k : ℕ) (d : X) → suc k < length xs → p (get_or xs k d) ≡ true → p (get_or xs (suc k) d) ≡ true
      → ((n : ℕ) (e : X) → n < length xs → n ≢ k → n ≢ suc k → p (get_or xs n e) ≡ false) → length (filter p xs) ≡ 2
  two_alone [] k d h a b none = absurd (omega arith)
  two_alone (x ∷ []) zero d h a b none = absurd (omega arith)
  two_alone (x ∷ y ∷ ys) zero d h a b none =
      let rest : filter p ys ≡ [] = none_pass ys (λ n e g. none (suc (suc n)) e (omega arith) (λ same. omega arith) (λ same. omega arith)) in
      omega (arith, counted (p x) x (filter p (y ∷ ys)) a, counted (p y) y (filter p ys) b, ap length rest)
  two_alone (x ∷ xs) (suc k) d h a b none =
      ap length (uncounted (p x) x (filter p xs) (none zero x (omega arith) (λ same. omega arith) (λ same. omega arith)))
      ∙ two_alone xs k d (omega arith) a b (λ n e g ne apart. none (suc n) e (omega arith) (λ same. ne (omega arith)) (λ same. apart (omega arith)))

-- orders

tie : (o u : Ordering) → is_lt o ≡ false → is_lt u ≡ false → o ≡ ordering_reverse u → o ≡ Equal
tie Less u a b e = absurd (true≢false a)
tie Equal u a b e = refl
tie Greater Less a b e = absurd (true≢false b)
tie Greater Equal a b e = e
tie Greater Greater a b e = cc

apart_by : (o : Ordering) → o ≢ Equal → is_eq o ≡ false
apart_by Less n = refl
apart_by Equal n = absurd (n refl)
apart_by Greater n = refl

-- sorted by pairs is sorted by keys
pub keys_sorted : {K : Type 0} (cmp : K → K → Ordering) (pairs : List (K × ℕ)) → IsSorted (λ x y. ordering_then (cmp x.0 y.0) (nat_cmp x.1 y.1)) pairs
    → IsSortedBy (λ x y. is_lt (cmp x.0 y.0)) pairs
keys_sorted cmp pairs sorted k d low high = first_not_less (cmp (get_or pairs (k + 1) d).0 (get_or pairs k d).0) (nat_cmp (get_or pairs (k + 1) d).1 (get_or pairs k d).1) (sorted k d low high)

-- of which sheet each is

abbrev IsProposed : ℕ → ℕ → Proposal → Type 0
IsProposed a b w = (is_of_second a ≡ false) × (is_of_second b ≡ true) × (w.place ≡ place_by a) × (w.target ≡ place_by b)

proposed_if : (s t : Bool) (i j : ℕ) (w : Proposal) → proposal_if s t i j ≡ Some w
    → ((s ≡ false) × (t ≡ true) × (w.place ≡ i) × (w.target ≡ j)) ⊎ ((t ≡ false) × (s ≡ true) × (w.place ≡ j) × (w.target ≡ i))
proposed_if false true i j w e = let same = same_Some (record { place = i; target = j }) w e in inl (refl, refl, ap (λ (x : Proposal). x.place) (sym same), ap (λ (x : Proposal). x.target) (sym same))
proposed_if true false i j w e = let same = same_Some (record { place = j; target = i }) w e in inr (refl, refl, ap (λ (x : Proposal). x.place) (sym same), ap (λ (x : Proposal). x.target) (sym same))
proposed_if false false i j w e = cc
proposed_if true true i j w e = cc

proposed : (a b : ℕ) (w : Proposal) → proposal_by a b ≡ Some w → IsProposed a b w ⊎ IsProposed b a w
proposed a b w e = proposed_if (is_of_second a) (is_of_second b) (place_by a) (place_by b) w e

proposal_from : (a b : ℕ) (w : Proposal) → IsProposed a b w → (proposal_by a b ≡ Some w) × (proposal_by b a ≡ Some w)
proposal_from a b w is = (
  (λ i. proposal_if (is.0 i) (is.1 i) (place_by a) (place_by b)) ∙ ap Some (λ i. record { place = sym is.2 i; target = sym is.3 i }),
  (λ i. proposal_if (is.1 i) (is.0 i) (place_by b) (place_by a)) ∙ ap Some (λ i. record { place = sym is.2 i; target = sym is.3 i }),
)

-- neighbours with one key

head_of : {X : Type 0} (xs : List X) → 0 < length xs → X
head_of [] h = absurd (omega arith)
head_of (x ∷ xs) h = x

module _ {K : Type 0} (cmp : K → K → Ordering) (total : IsTotalOrder cmp) (pairs : List (K × ℕ)) (sorted : IsSortedBy (λ x y. is_lt (cmp x.0 y.0)) pairs) where
  never_less : (i j : ℕ) (d : K × ℕ) → i ≤ j → j < length pairs → is_lt (cmp (get_or pairs j d).0 (get_or pairs i d).0) ≡ false
  never_less i j d up h = sorted_far (λ (x y : K × ℕ). is_lt (cmp x.0 y.0)) (ranks_by total (λ (x : K × ℕ). x.0)) pairs sorted i j d up h

  -- what stands between two with one key has it too
  between : (i m j : ℕ) (d : K × ℕ) → i ≤ m → m ≤ j → j < length pairs → cmp (get_or pairs i d).0 (get_or pairs j d).0 ≡ Equal → cmp (get_or pairs m d).0 (get_or pairs i d).0 ≡ Equal
  between i m j d low high h e =
      let x = (get_or pairs i d).0 in
      let y = (get_or pairs m d).0 in
      let z = (get_or pairs j d).0 in
      tie (cmp y x) (cmp x y) (never_less i m d low (omega arith)) (ap is_lt (total.congr x z y e) ∙ never_less m j d high h) (total.antisymm y x)

  same_count : (a b : K) → cmp a b ≡ Equal → length (with_key cmp pairs b) ≡ length (with_key cmp pairs a)
  same_count a b e = ap length (filter_agree (λ (x : K × ℕ). is_eq (cmp x.0 b)) (λ (x : K × ℕ). is_eq (cmp x.0 a)) (λ x. ap is_eq (sym (alike_right total a b x.0 e))) pairs)

  module _ (k : ℕ) (w : Proposal) (lone : IsLoneAt cmp pairs k w) where
    no_other : (n : ℕ) (d : K × ℕ) → n < length pairs → n ≢ k → n ≢ suc k → cmp (get_or pairs n d).0 (get_or pairs k d).0 ≢ Equal
    no_other n d h ne apart same = go (cases_lt n k)
      where
        within : k + 1 < length pairs
        within = lone.within

        go : (n < k) ⊎ (k ≤ n) → ⊥
        go (inl less) =
            let near = between n (k - 1) k d (omega arith) (omega arith) (omega (arith, within)) same in
            lone.before d (omega arith) (total.congr (get_or pairs (k - 1) d).0 (get_or pairs n d).0 (get_or pairs k d).0 near ∙ same)
        go (inr more) =
            let back = tied_back total (get_or pairs n d).0 (get_or pairs k d).0 same in
            lone.behind d (omega (arith, ne, apart)) (between k (k + 2) n d (omega arith) (omega (arith, ne, apart)) h back)

    alone_at : (d : K × ℕ) → length (with_key cmp pairs (get_or pairs k d).0) ≡ 2
    alone_at d =
        let key = (get_or pairs k d).0 in
        let next : cmp key (get_or pairs (suc k) d).0 ≡ Equal = subst (λ (n : ℕ). cmp key (get_or pairs n d).0 ≡ Equal) (add-one k) (lone.one_key d) in
        two_alone (λ (x : K × ℕ). is_eq (cmp x.0 key)) pairs k d (omega (arith, lone.within))
        (ap is_eq (tied_itself total key)) (ap is_eq (tied_back total key (get_or pairs (suc k) d).0 next))
        (λ n e h ne apart. apart_by (cmp (get_or pairs n e).0 key) (λ same.
        no_other n d h ne apart (ap (λ (x : K × ℕ). cmp x.0 key) (get_or_default pairs n d e h) ∙ same)))

    lone_in : (d : K × ℕ) → IsLonePair cmp pairs w
    lone_in d =
        let x = get_or pairs k d in
        let y = get_or pairs (k + 1) d in
        let x_there : Contains pairs x = Contains-get_or pairs k d (omega (arith, lone.within)) in
        let y_there : Contains pairs y = Contains-get_or pairs (k + 1) d lone.within in
        let one = lone.one_key d in
        elim (proposed x.1 y.1 w (lone.is d)) [
          | inl is ↦ record { first = x; second = y; here = x_there; there = y_there; one_key = one; alone = alone_at d; of_first = is.0; of_second = is.1; place = is.2; target = is.3 }
          | inr is ↦ record { first = y; second = x; here = y_there; there = x_there; one_key = tied_back total x.0 y.0 one; alone = same_count x.0 y.0 one ∙ alone_at d; of_first = is.0; of_second = is.1; place = is.2; target = is.3 }
        ]

    pub lone_pair_from_at : IsLonePair cmp pairs w
    lone_pair_from_at = lone_in (head_of pairs (omega (arith, lone.within)))

  module _ (i j : ℕ) (x y : K × ℕ) (w : Proposal) (up : i < j) (h : j < length pairs) (at_i : (d : K × ℕ) → get_or pairs i d ≡ x) (at_j : (d : K × ℕ) → get_or pairs j d ≡ y)
      (one : cmp x.0 y.0 ≡ Equal) (alone : length (with_key cmp pairs x.0) ≡ 2) (is : proposal_by x.1 y.1 ≡ Some w) where
    abbrev passes : K × ℕ → Bool
    passes z = is_eq (cmp z.0 x.0)

    first_passes : (d : K × ℕ) → passes (get_or pairs i d) ≡ true
    first_passes d = ap passes (at_i d) ∙ ap is_eq (tied_itself total x.0)

    second_passes : (d : K × ℕ) → passes (get_or pairs j d) ≡ true
    second_passes d = ap passes (at_j d) ∙ ap is_eq (tied_back total x.0 y.0 one)

    too_many : (a b c : ℕ) (d : K × ℕ) → a < b → b < c → c < length pairs → passes (get_or pairs a d) ≡ true → passes (get_or pairs b d) ≡ true → passes (get_or pairs c d) ≡ true → ⊥
    too_many a b c d less more within e f g = omega (arith, three_pass passes pairs a b c d less more within e f g, alone)

    next : j ≡ i + 1
    next = go (cases_lt (i + 1) j)
      where
        go : (i + 1 < j) ⊎ (j ≤ i + 1) → j ≡ i + 1
        go (inl less) =
            let same : cmp (get_or pairs i x).0 (get_or pairs j x).0 ≡ Equal = (λ n. cmp (at_i x n).0 (at_j x n).0) ∙ one in
            let mid = between i (i + 1) j x (omega arith) (omega arith) h same in
            absurd (too_many i (i + 1) j x (omega arith) less h (first_passes x) (ap is_eq (ap (λ (z : K × ℕ). cmp (get_or pairs (i + 1) x).0 z.0) (sym (at_i x)) ∙ mid)) (second_passes x))
        go (inr more) = omega arith

    at_next : (d : K × ℕ) → get_or pairs (i + 1) d ≡ y
    at_next d = ap (λ n. get_or pairs n d) (sym next) ∙ at_j d

    lone_at : IsLoneAt cmp pairs i w
    lone_at = record {
      within = subst (λ (n : ℕ). n < length pairs) next h;
      one_key = λ d. (λ n. cmp (at_i d n).0 (at_next d n).0) ∙ one;
      before = λ d some same. too_many (i - 1) i j d (omega arith) up h (ap is_eq (ap (λ (z : K × ℕ). cmp (get_or pairs (i - 1) d).0 z.0) (sym (at_i d)) ∙ same)) (first_passes d) (second_passes d);
      behind = λ d some same. too_many i j (i + 2) d up (omega (arith, next)) some (first_passes d) (second_passes d) (ap is_eq (ap (λ (z : K × ℕ). cmp (get_or pairs (i + 2) d).0 z.0) (sym (at_i d)) ∙ same));
      is = λ d. (λ n. proposal_by (at_i d n).1 (at_next d n).1) ∙ is;
    }

  module _ (w : Proposal) (lone : IsLonePair cmp pairs w) where
    abbrev first_place : ℕ
    first_place = lone.here.0

    abbrev second_place : ℕ
    second_place = lone.there.0

    at_first : (d : K × ℕ) → get_or pairs first_place d ≡ lone.first
    at_first d = get_or_default pairs first_place d lone.first lone.here.1 ∙ lone.here.2

    at_second : (d : K × ℕ) → get_or pairs second_place d ≡ lone.second
    at_second d = get_or_default pairs second_place d lone.second lone.there.1 ∙ lone.there.2

    proposal_is : (proposal_by lone.first.1 lone.second.1 ≡ Some w) × (proposal_by lone.second.1 lone.first.1 ≡ Some w)
    proposal_is = proposal_from lone.first.1 lone.second.1 w (lone.of_first, lone.of_second, lone.place, lone.target)

    one_place : first_place ≡ second_place → ⊥
    one_place same =
        let e : lone.first ≡ lone.second = sym (at_first lone.first) ∙ (ap (λ n. get_or pairs n lone.first) same ∙ at_second lone.first) in
        true≢false (sym lone.of_second ∙ (ap (λ (z : K × ℕ). is_of_second z.1) (sym e) ∙ lone.of_first))

    pub at_from_lone_pair : (k : ℕ) × IsLoneAt cmp pairs k w
    at_from_lone_pair = go (cases_lt first_place second_place)
      where
        go : (first_place < second_place) ⊎ (second_place ≤ first_place) → (k : ℕ) × IsLoneAt cmp pairs k w
        go (inl less) = (first_place, lone_at first_place second_place lone.first lone.second w less lone.there.1 at_first at_second lone.one_key lone.alone proposal_is.0)
        go (inr more) =
            let ne = one_place in (
              second_place,
              lone_at second_place first_place lone.second lone.first w (omega (arith, more, ne)) lone.here.1 at_second at_first
                  (tied_back total lone.first.0 lone.second.0 lone.one_key) (same_count lone.first.0 lone.second.0 lone.one_key ∙ lone.alone) proposal_is.1,
            )

-- the same of the list before it was sorted

module _ {K : Type 0} (cmp : K → K → Ordering) where
  moved : (xs ys : List (K × ℕ)) (w : Proposal) → IsPermutation xs ys → IsLonePair cmp xs w → IsLonePair cmp ys w
  moved xs ys w same lone =
      let test = λ (x : K × ℕ). is_eq (cmp x.0 lone.first.0) in
      record {
        first = lone.first;
        second = lone.second;
        here = Contains-permutation xs ys lone.first same lone.here;
        there = Contains-permutation xs ys lone.second same lone.there;
        one_key = lone.one_key;
        alone = length-filter test ys ∙ (sum_by-IsPermutation (λ (x : K × ℕ). cond (test x) 1 0) xs ys same ∙ (sym (length-filter test xs) ∙ lone.alone));
        of_first = lone.of_first;
        of_second = lone.of_second;
        place = lone.place;
        target = lone.target;
      }

  pub lone_pairs_from_neighbours : (total : IsTotalOrder cmp) (old new : List (K × ℕ)) → IsPermutation old new → IsSorted (λ x y. ordering_then (cmp x.0 y.0) (nat_cmp x.1 y.1)) new
      → (found : List Proposal) → AreLoneNeighbours cmp new found → AreLonePairs cmp old found
  lone_pairs_from_neighbours total old new same sorted found near w = (
    λ has. let at = (near w).0 has in moved new old w (IsPermutation-sym old new same) (lone_pair_from_at cmp total new (keys_sorted cmp new sorted) at.0 w at.1),
    λ lone. (near w).1 (at_from_lone_pair cmp total new (keys_sorted cmp new sorted) w (moved old new w same lone)),
  )

  -- the neighbours so far

  abbrev pub AreLoneBefore : List (K × ℕ) → ℕ → List Proposal → Type 0
  AreLoneBefore pairs n found = (w : Proposal) → Contains found w ↔ ((k : ℕ) × (k < n) × IsLoneAt cmp pairs k w)

  pub lone_none : (pairs : List (K × ℕ)) → AreLoneBefore pairs 0 []
  lone_none pairs w = (λ has. absurd (omega (arith, has.1)), λ lone. absurd (omega (arith, lone.1)))

  at_last : (n k : ℕ) → k < n + 1 → (k < n) ⊎ (n ≤ k) → (k < n) ⊎ (k ≡ n)
  at_last n k h (inl less) = inl less
  at_last n k h (inr more) = inr (omega arith)

  pub lone_more : (pairs : List (K × ℕ)) (n : ℕ) (found : List Proposal) (x : Proposal) → AreLoneBefore pairs n found → IsLoneIfAny cmp pairs n (Some x) → AreLoneBefore pairs (n + 1) (found ++ x ∷ [])
  lone_more pairs n found x before is w = (
    λ has. elim (Contains-push_cases found x w has) [
      | inl earlier ↦ let at = (before w).0 earlier in (at.0, omega (arith, at.1), at.2)
      | inr same ↦ (n, omega arith, (is w).0 (ap Some same))
    ],
    λ lone. elim (at_last n lone.0 lone.1 (cases_lt lone.0 n)) [
      | inl less ↦ Contains-append_left found (x ∷ []) w ((before w).1 (lone.0, less, lone.2))
      | inr here ↦
          let e : x ≡ w = same_Some x w ((is w).1 (subst (λ (k : ℕ). IsLoneAt cmp pairs k w) here lone.2)) in
          subst (λ (z : Proposal). Contains (found ++ x ∷ []) z) e (Contains-push found x)
    ],
  )

  pub lone_same : (pairs : List (K × ℕ)) (n : ℕ) (found : List Proposal) → AreLoneBefore pairs n found → IsLoneIfAny cmp pairs n None → AreLoneBefore pairs (n + 1) found
  lone_same pairs n found before is w = (
    λ has. let at = (before w).0 has in (at.0, omega (arith, at.1), at.2),
    λ lone. elim (at_last n lone.0 lone.1 (cases_lt lone.0 n)) [
      | inl less ↦ (before w).1 (lone.0, less, lone.2)
      | inr here ↦ let e : None ≡ Some w = (is w).1 (subst (λ (k : ℕ). IsLoneAt cmp pairs k w) here lone.2) in cc
    ],
  )

  pub lone_all : (pairs : List (K × ℕ)) (n : ℕ) (found : List Proposal) → AreLoneBefore pairs n found → length pairs ≤ n → AreLoneNeighbours cmp pairs found
  lone_all pairs n found before over w = (
    λ has. let at = (before w).0 has in (at.0, at.2),
    λ lone. (before w).1 (lone.0, omega (arith, over, lone.1.within), lone.1),
  )

-- the record at a place in the list, and whether it has a key

some_if : (o : Option ℕ) (P : Type 0) (v : ℕ) → SomeIff o P v → P → o ≡ Some v
some_if None P v h p = absurd (h p)
some_if (Some k) P v h p = ap Some h.1

some_value : (o : Option ℕ) (P : Type 0) (v k : ℕ) → SomeIff o P v → o ≡ Some k → (k ≡ v) × P
some_value None P v k h e = absurd (none-some k e)
some_value (Some n) P v k h e = (sym (same_Some n k e) ∙ h.1, h.0)

module _ {K : Type 0} (cmp : K → K → Ordering) (pairs : List (K × ℕ)) (key : K) where
  pub no_key_nowhere : (o : Option ℕ) → o ≡ None → IsTrue false ↔ HasKeyAt cmp pairs o key
  no_key_nowhere o e = (λ no. absurd (true≢false (sym no)), λ has. absurd (none-some has.0 (sym e ∙ has.1)))

  pub no_key_past : (o : Option ℕ) (k : ℕ) → o ≡ Some k → length pairs ≤ k → IsTrue false ↔ HasKeyAt cmp pairs o key
  no_key_past o k e over = (λ no. absurd (true≢false (sym no)), λ has. let same = same_Some k has.0 (sym e ∙ has.1) in absurd (omega (arith, over, same, has.2)))

  has_there : (k : ℕ) (d : K × ℕ) (o : Option ℕ) → o ≡ Some k → k < length pairs → cmp (get_or pairs k d).0 key ≡ Equal → HasKeyAt cmp pairs o key
  has_there k d o e h same = (k, e, h, λ c. ap (λ (z : K × ℕ). cmp z.0 key) (get_or_default pairs k c d h) ∙ same)

  pub key_there : (o : Option ℕ) (k : ℕ) (x : K × ℕ) (r : Bool) → o ≡ Some k → k < length pairs → x ≡ get_or pairs k x → r ≡ is_eq (cmp x.0 key) → IsTrue r ↔ HasKeyAt cmp pairs o key
  key_there o k x r e h x_is is = (
    λ yes. has_there k x o e h (ap (λ (z : K × ℕ). cmp z.0 key) (sym x_is) ∙ equal_is (cmp x.0 key) (sym is ∙ yes)),
    λ has. let same = same_Some k has.0 (sym e ∙ has.1) in
        is ∙ (ap (λ (z : K × ℕ). is_eq (cmp z.0 key)) x_is ∙ (ap (λ n. is_eq (cmp (get_or pairs n x).0 key)) same ∙ ap is_eq (has.3 x))),
  )

-- the pair at a place and the next

module _ {K : Type 0} (cmp : K → K → Ordering) (pairs : List (K × ℕ)) (at : ℕ) where
  pub none_past : length pairs ≤ at + 1 → IsLoneIfAny cmp pairs at None
  none_past over w = (λ e. absurd (none-some w e), λ lone. absurd (omega (arith, over, lone.within)))

  module _ (x y : K × ℕ) (within : at + 1 < length pairs) (x_is : x ≡ get_or pairs at x) (y_is : y ≡ get_or pairs (at + 1) y) where
    at_x : (d : K × ℕ) → get_or pairs at d ≡ x
    at_x d = sym (get_or_read pairs at x (omega arith) x_is d)

    at_y : (d : K × ℕ) → get_or pairs (at + 1) d ≡ y
    at_y d = sym (get_or_read pairs (at + 1) y within y_is d)

    pub none_tied : cmp x.0 y.0 ≢ Equal → IsLoneIfAny cmp pairs at None
    none_tied ne w = (λ e. absurd (none-some w e), λ lone. absurd (ne (sym (λ n. cmp (at_x x n).0 (at_y x n).0) ∙ lone.one_key x)))

    pub none_before : (o : Option ℕ) → SomeIff o (1 ≤ at) (at - 1) → HasKeyAt cmp pairs o x.0 → IsLoneIfAny cmp pairs at None
    none_before o is has w = (
      λ e. absurd (none-some w e),
      λ lone.
          let v = some_value o (1 ≤ at) (at - 1) has.0 is has.1 in
          absurd (lone.before x (omega (arith, v.1)) ((λ n. cmp (get_or pairs (sym v.0 n) x).0 (at_x x n).0) ∙ has.3 x)),
    )

    pub none_after : (o : Option ℕ) → SomeIff o (at + 2 < 2 ^ 64) (at + 2) → HasKeyAt cmp pairs o x.0 → IsLoneIfAny cmp pairs at None
    none_after o is has w = (
      λ e. absurd (none-some w e),
      λ lone.
          let v = some_value o (at + 2 < 2 ^ 64) (at + 2) has.0 is has.1 in
          absurd (lone.behind x (omega (arith, v.0, has.2)) ((λ n. cmp (get_or pairs (sym v.0 n) x).0 (at_x x n).0) ∙ has.3 x)),
    )

    pub lone_here : (o u : Option ℕ) → SomeIff o (1 ≤ at) (at - 1) → SomeIff u (at + 2 < 2 ^ 64) (at + 2) → length pairs < 2 ^ 64 → cmp x.0 y.0 ≡ Equal
        → ¬ (HasKeyAt cmp pairs o x.0) → ¬ (HasKeyAt cmp pairs u x.0) → (found : Option Proposal) → found ≡ proposal_by x.1 y.1 → IsLoneIfAny cmp pairs at found
    lone_here o u o_is u_is few one alone_before alone_behind found is w = (
      λ e. record {
        within = within;
        one_key = λ d. (λ n. cmp (at_x d n).0 (at_y d n).0) ∙ one;
        before = λ d some same. alone_before (has_there cmp pairs x.0 (at - 1) d o (some_if o (1 ≤ at) (at - 1) o_is (omega (arith, some))) (omega (arith, within))
            (ap (λ (z : K × ℕ). cmp (get_or pairs (at - 1) d).0 z.0) (sym (at_x d)) ∙ same));
        behind = λ d some same. alone_behind (has_there cmp pairs x.0 (at + 2) d u (some_if u (at + 2 < 2 ^ 64) (at + 2) u_is (omega (arith, some, few))) some
            (ap (λ (z : K × ℕ). cmp (get_or pairs (at + 2) d).0 z.0) (sym (at_x d)) ∙ same));
        is = λ d. (λ n. proposal_by (at_x d n).1 (at_y d n).1) ∙ (sym is ∙ e);
      },
      λ lone. is ∙ (sym (λ n. proposal_by (at_x x n).1 (at_y x n).1) ∙ lone.is x),
    )

-- under a result that may be an error

pub proposed_by : {K V E : Type 0} (cmp : K → K → Ordering) (items : V → List Proposal) (key : ℕ → Option K) (codes all : List ℕ) (n : ℕ) (pairs lent : List (K × ℕ)) (r : Result V E) → lent ≡ pairs
    → pairs ≡ with_keys key (take n codes) → length codes ≤ n → codes ≡ all → IfOk r (λ v. AreLonePairs cmp lent (items v)) → IfOk r (λ v. AreLonePairs cmp (with_keys key all) (items v))
proposed_by {K} cmp items key codes all n pairs lent r same e h is lone =
    subst (λ (ps : List (K × ℕ)). IfOk r (λ v. AreLonePairs cmp ps (items v))) (same ∙ (e ∙ ap (with_keys key) (take_all n codes h ∙ is))) lone

pub keyed_more : {K : Type 0} (key : ℕ → Option K) (codes : List ℕ) (n : ℕ) (done new : List (K × ℕ)) (found : Option K) → n < length codes → done ≡ with_keys key (take n codes)
    → found ≡ key (get_or codes n 0) → new ≡ done ++ with_code found (get_or codes n 0) → new ≡ with_keys key (take (n + 1) codes)
keyed_more key codes n done new found h so_far found_is is =
    let code = get_or codes n 0 in
    is ∙ ((λ i. so_far i ++ with_code (found_is i) code) ∙ (flat_map_more (λ c. with_code (key c) c) [] (take n codes) code ∙ ap (with_keys key) (sym (take_more codes n 0 h))))
