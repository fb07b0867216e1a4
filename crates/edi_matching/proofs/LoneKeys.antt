-- Keys that stand once in each of two lists in the order of their keys.
use Rattle.std.proofs.Common.{◌≡◌, ℕ, ◌+◌, ◌-◌, ◌<◌, ◌≤◌, ◌⊎◌, inl, inr, Bool, true, false, true≢false, List, [], ◌∷◌, Option, None, Some, drop, length, get_or, not, refl, sym, ap, ◌∙◌, subst, take, arith, Ordering, Less, Equal, Greater, is_lt, IsPermutation, IsSorted, OnOk, Result}
use Rattle.std.specs.Cmp.{IsEquivalence, IsTotalOrder}
use Rattle.std.specs.List.{before_first, prefix_len}
use Rattle.std.specs.Ordering.{is_eq, is_gt, ordering_reverse, ordering_then}
use Rattle.std.proofs.lemmas.Bool.{cases_eq, cases_lt}
use Rattle.std.proofs.lemmas.Cmp.{alike_right, upto}
use Rattle.std.proofs.lemmas.List.{drop_more, get_or_default, get_or_read}
use Rattle.std.proofs.lemmas.List.Sorted.{ranks_by, sorted_far}
use Rattle.std.proofs.lemmas.List.Sums.{prefix_len-drop_all, prefix_len-drop_no, prefix_len-drop_yes}
use Rattle.edi_line.proofs.Truths.{equal_is, less_is, first_not_less}
use Rattle.edi_plan.specs.Plans.{PlanData}
use Rattle.edi_matching.specs.declared.ranked.Member.{Member}
use Rattle.edi_matching.specs.inner.Additions.{AddsPairs, AreAlike, AreFree, AreInOrder, AreLone, HasKey, HaveLoneKey, IsFirstFrom, IsLone, LeavesNoLone, PairsByKey, PairsIfAlike, StartsRun}
use Rattle.edi_matching.proofs.KeysAdded.{Shared, has_it}
use Rattle.edi_matching.proofs.PairsAdded.{adds_if_alike, adds_none, not_left, on_both}

-- orders

reversed : (o : Ordering) → is_lt o ≡ false → is_gt (ordering_reverse o) ≡ false
reversed Less e = absurd (true≢false e)
reversed Equal e = refl
reversed Greater e = refl

module _ {K : Type 0} (cmp : K → K → Ordering) (total : IsTotalOrder cmp) where
  abbrev pub IsUpTo : K → K → Type 0
  IsUpTo a b = is_gt (cmp a b) ≡ false

  pub not_less : (a b : K) → is_lt (cmp a b) ≡ false → IsUpTo b a
  not_less a b e = ap is_gt (total.antisymm b a) ∙ reversed (cmp a b) e

  less_then : (a b c : K) → is_lt (cmp a b) ≡ true → IsUpTo b c → is_lt (cmp a c) ≡ true
  less_then a b c less up = ap is_lt (go (cmp b c) refl)
    where
      first : cmp a b ≡ Less
      first = less_is (cmp a b) less

      go : (o : Ordering) → cmp b c ≡ o → cmp a c ≡ Less
      go Less e = total.trans a b c first e
      go Equal e = sym (alike_right total b c a e) ∙ first
      go Greater e = absurd (true≢false (sym (ap is_gt e) ∙ up))

  -- what stands between two that tie is tied
  between_tied : (a b c key : K) → IsUpTo key a → IsUpTo a b → IsUpTo b c → cmp c key ≡ Equal → cmp b c ≡ Equal
  between_tied a b c key first second third tied = go (cmp b c) refl
    where
      back : IsUpTo c b
      back = ap is_gt (total.congr c key b tied) ∙ upto total key a b first second

      go : (o : Ordering) → cmp b c ≡ o → cmp b c ≡ Equal
      go Less e = absurd (true≢false (sym (ap is_gt (total.antisymm c b ∙ ap ordering_reverse e)) ∙ back))
      go Equal e = e
      go Greater e = absurd (true≢false (sym (ap is_gt e) ∙ third))

module _ {K : Type 0} (cmp : K → K → Ordering) (eq : K → K → Bool) (total : IsTotalOrder cmp) (ties : (x y : K) → eq x y ≡ is_eq (cmp x y)) where
  pub rises : {X : Type 0} (entries : List (K × X)) → AreInOrder cmp entries → (i j : ℕ) (d : K × X) → i ≤ j → j < length entries → IsUpTo cmp total (get_or entries i d).0 (get_or entries j d).0
  rises {X} entries order i j d up within = not_less cmp total (get_or entries j d).0 (get_or entries i d).0 (sorted_far (λ x y. is_lt (cmp x.0 y.0)) (ranks_by total (λ (x : K × X). x.0)) entries order i j d up within)

  -- a key that stands once is found
  lone_found : (others : List (K × Member)) (order : AreInOrder cmp others) (from at lone : ℕ) (key : K) (d : K × Member) → ((k : ℕ) → k < from → is_lt (cmp (get_or others k d).0 key) ≡ true)
      → IsFirstFrom cmp others from key at → lone < length others → IsLone eq others lone → eq (get_or others lone d).0 key ≡ true → lone ≡ at
  lone_found others order from at lone key d passed first within alone same = go (cases_lt lone at) (cases_lt at lone)
    where
      tied : cmp (get_or others lone d).0 key ≡ Equal
      tied = equal_is (cmp (get_or others lone d).0 key) (sym (ties (get_or others lone d).0 key) ∙ same)

      not_before : is_lt (cmp (get_or others lone d).0 key) ≡ true → ⊥
      not_before less = let e : Less ≡ Equal = sym (less_is (cmp (get_or others lone d).0 key) less) ∙ tied in cc

      early : (lone < from) ⊎ (from ≤ lone) → lone < at → ⊥
      early (inl less) below = not_before (passed lone less)
      early (inr more) below = not_before (first.less lone d more below)

      late : at < lone → ⊥
      late above =
          let up = not_less cmp total (get_or others at d).0 key (first.found d (omega (arith, within))) in
          let before = rises others order at (lone - 1) d (omega arith) (omega (arith, within)) in
          let last = rises others order (lone - 1) lone d (omega arith) within in
          let twin = between_tied cmp total (get_or others at d).0 (get_or others (lone - 1) d).0 (get_or others lone d).0 key up before last tied in
          true≢false (sym (ties (get_or others (lone - 1) d).0 (get_or others lone d).0 ∙ ap is_eq twin) ∙ alone.before d (omega arith))

      go : (lone < at) ⊎ (at ≤ lone) → (at < lone) ⊎ (lone ≤ at) → lone ≡ at
      go (inl below) b = absurd (early (cases_lt lone from) below)
      go (inr up) (inl above) = absurd (late above)
      go (inr up) (inr down) = omega arith

-- what is free after more was added was free before
pub still_free : (Pair : ℕ → ℕ → Type 0) (to : List (Option ℕ)) (taken : List Bool) (more : List (Option ℕ)) (marks : List Bool) (i j : ℕ) → AddsPairs Pair to taken more marks → AreFree more marks i j → AreFree to taken i j
still_free Pair to taken more marks i j adds free = record { here = subst (λ n. i < n) adds.long free.here; left = left (get_or to i None) refl; free = unmarked (get_or taken j true) refl }
  where
    left : (o : Option ℕ) → get_or to i None ≡ o → get_or to i None ≡ None
    left None e = e
    left (Some x) e = let wrong : None ≡ Some x = sym free.left ∙ adds.keeps i x e in cc

    unmarked : (b : Bool) → get_or taken j true ≡ b → get_or taken j true ≡ false
    unmarked true e = absurd (true≢false (sym (adds.stays j e) ∙ free.free))
    unmarked false e = e

-- what is alone begins those with its key
pub lone_starts : {K : Type 0} (eq : K → K → Bool) (entries : List (K × Member)) (at : ℕ) → IsLone eq entries at → StartsRun eq entries at
lone_starts eq entries at alone = go (cases_eq at 0)
  where
    go : (at ≡ 0) ⊎ (at ≡ 0 → ⊥) → StartsRun eq entries at
    go (inl first) = inl first
    go (inr ne) = inr (λ d. alone.before d (omega arith))

-- Of the first so many objects none is left that has a key which each list has once, and each entry before a position of the other list has a lesser key than the rest.
pub record NoneLeft {K : Type 0} (cmp : K → K → Ordering) (eq : K → K → Bool) (p q : PlanData) (objects others : List (K × Member)) (index at : ℕ) (to : List (Option ℕ)) (taken : List Bool) : Type 0 where
  pub passed : (k m : ℕ) (d : K × Member) → k < at → index ≤ m → m < length objects → is_lt (cmp (get_or others k d).0 (get_or objects m d).0) ≡ true
  pub none : (i j : ℕ) (w : HaveLoneKey eq (λ (m : Member). m.place) objects others i j) → w.one.listed.0 < index → AreAlike p q i j → ¬ (AreFree to taken i j)

module _ {K : Type 0} (cmp : K → K → Ordering) (eq : K → K → Bool) (total : IsTotalOrder cmp) (ties : (x y : K) → eq x y ≡ is_eq (cmp x y)) (p q : PlanData) (objects others : List (K × Member)) where
  abbrev pub IsSoFar : ℕ → ℕ → List (Option ℕ) → List Bool → Type 0
  IsSoFar index at to taken = NoneLeft cmp eq p q objects others index at to taken

  pub none_yet : (to : List (Option ℕ)) (taken : List Bool) → IsSoFar 0 0 to taken
  none_yet to taken = record { passed = λ k m d below up within. absurd (omega (arith, below)); none = λ i j w below alike free. absurd (omega (arith, below)) }

  -- the next doesn't begin those with its key
  pub passed_over : (index at : ℕ) (to : List (Option ℕ)) (taken : List Bool) → (StartsRun eq objects index → ⊥) → IsSoFar index at to taken → IsSoFar (index + 1) at to taken
  passed_over index at to taken inside so = record {
    passed = λ k m d below up within. so.passed k m d below (omega (arith, up)) within;
    none = λ i j w below alike free. go i j w below alike free (cases_eq w.one.listed.0 index);
  }
    where
      go : (i j : ℕ) (w : HaveLoneKey eq (λ (m : Member). m.place) objects others i j) → w.one.listed.0 < index + 1 → AreAlike p q i j → AreFree to taken i j → (w.one.listed.0 ≡ index) ⊎ (w.one.listed.0 ≡ index → ⊥) → ⊥
      go i j w below alike free (inl same) = inside (lone_starts eq objects index (subst (λ (k : ℕ). IsLone eq objects k) same w.lone))
      go i j w below alike free (inr ne) = so.none i j w (omega (arith, below)) alike free

  -- the next was sought
  pub looked_at : AreInOrder cmp objects → AreInOrder cmp others → (index from at : ℕ) (Pair : ℕ → ℕ → Type 0) (to : List (Option ℕ)) (taken : List Bool) (more : List (Option ℕ)) (marks : List Bool)
      → index < length objects → (x : K × Member) → x ≡ get_or objects index x → IsFirstFrom cmp others from x.0 at → AddsPairs Pair to taken more marks
      → ((y : K × Member) → at < length others → get_or others at y ≡ y → eq y.0 x.0 ≡ true → IsLone eq objects index → IsLone eq others at → AreAlike p q x.1.place y.1.place → ¬ (AreFree more marks x.1.place y.1.place))
      → IsSoFar index from to taken → IsSoFar (index + 1) at more marks
  looked_at order other_order index from at Pair to taken more marks inside x is first adds looked so = record {
    passed = λ k m d below up within. early k m d below up within (cases_lt k from);
    none = λ i j w below alike free. go i j w below alike free (cases_eq w.one.listed.0 index);
  }
    where
      read : (d : K × Member) → x ≡ get_or objects index d
      read d = get_or_read objects index x inside is d

      early : (k m : ℕ) (d : K × Member) → k < at → index + 1 ≤ m → m < length objects → (k < from) ⊎ (from ≤ k) → is_lt (cmp (get_or others k d).0 (get_or objects m d).0) ≡ true
      early k m d below up within (inl less) = so.passed k m d less (omega (arith, up)) within
      early k m d below up within (inr more_on) =
          less_then cmp total (get_or others k d).0 x.0 (get_or objects m d).0 (first.less k d more_on below)
          (subst (λ (y : K × Member). IsUpTo cmp total y.0 (get_or objects m d).0) (sym (read d)) (rises cmp eq total ties objects order index m d (omega (arith, up)) within))

      go : (i j : ℕ) (w : HaveLoneKey eq (λ (m : Member). m.place) objects others i j) → w.one.listed.0 < index + 1 → AreAlike p q i j → AreFree more marks i j → (w.one.listed.0 ≡ index) ⊎ (w.one.listed.0 ≡ index → ⊥) → ⊥
      go i j w below alike free (inr ne) = so.none i j w (omega (arith, below)) alike (still_free Pair to taken more marks i j adds free)
      go i j w below alike free (inl same) =
          let x_is : x ≡ w.one.here = read w.one.here ∙ (ap (λ (k : ℕ). get_or objects k w.one.here) (sym same) ∙ w.one.listed.2) in
          let y : K × Member = w.one.there in
          let key : eq y.0 x.0 ≡ true = ap (λ (z : K × Member). eq y.0 z.0) x_is ∙ w.one.same in
          let before : (k : ℕ) → k < from → is_lt (cmp (get_or others k y).0 x.0) ≡ true = λ k less. ap (λ (z : K × Member). is_lt (cmp (get_or others k y).0 z.0)) (read y) ∙ so.passed k index y less (omega arith) inside in
          let found : w.one.listed_there.0 ≡ at =
          lone_found cmp eq total ties others other_order from at w.one.listed_there.0 x.0 y before first w.one.listed_there.1 w.lone_there (ap (λ (z : K × Member). eq z.0 x.0) w.one.listed_there.2 ∙ key) in
          let is_i : x.1.place ≡ i = ap (λ (z : K × Member). z.1.place) x_is ∙ w.one.is_here in
          let is_j : y.1.place ≡ j = w.one.is_there in
          looked y (subst (λ (k : ℕ). k < length others) found w.one.listed_there.1) (subst (λ (k : ℕ). get_or others k y ≡ y) found w.one.listed_there.2) key
          (subst (λ (k : ℕ). IsLone eq objects k) same w.lone) (subst (λ (k : ℕ). IsLone eq others k) found w.lone_there)
          (subst (λ (a : ℕ). AreAlike p q a y.1.place) (sym is_i) (subst (λ (b : ℕ). AreAlike p q i b) (sym is_j) alike))
          (subst (λ (a : ℕ). AreFree more marks a y.1.place) (sym is_i) (subst (λ (b : ℕ). AreFree more marks i b) (sym is_j) free))

  -- the next is paired with what it was sought for
  pub lone_taken : AreInOrder cmp objects → AreInOrder cmp others → (index from at : ℕ) (to : List (Option ℕ)) (taken : List Bool) (more : List (Option ℕ)) (marks : List Bool)
      → index < length objects → (x d : K × Member) → x ≡ get_or objects index x → IsFirstFrom cmp others from x.0 at → PairsIfAlike p q x.1.place (get_or others at d).1.place to taken more marks
      → IsSoFar index from to taken → IsSoFar (index + 1) at more marks
  lone_taken order other_order index from at to taken more marks inside x d is first pairs so =
      looked_at order other_order index from at (AreAlike p q) to taken more marks inside x is first (adds_if_alike (AreAlike p q) p q x.1.place (get_or others at d).1.place to taken more marks (λ alike. alike) pairs)
      (λ z within at_z same lone lone_there alike. not_left p q x.1.place z.1.place to taken more marks
      (subst (λ (w : K × Member). PairsIfAlike p q x.1.place w.1.place to taken more marks) (get_or_default others at d z within ∙ at_z) pairs) alike) so

  -- there is no such one for the next
  pub lone_passed : AreInOrder cmp objects → AreInOrder cmp others → (index from at : ℕ) (to : List (Option ℕ)) (taken : List Bool) → index < length objects → (x : K × Member) → x ≡ get_or objects index x
      → IsFirstFrom cmp others from x.0 at → (AreLone eq objects index others at → ⊥) → IsSoFar index from to taken → IsSoFar (index + 1) at to taken
  lone_passed order other_order index from at to taken inside x is first none so =
      looked_at order other_order index from at (AreAlike p q) to taken to taken inside x is first (adds_none (AreAlike p q) to taken)
      (λ z within at_z same lone lone_there alike free. none (record {
        same = λ d. subst (λ (w : K × Member). HasKey eq others at w.0) (get_or_read objects index x inside is d) (has_it eq others at x.0 z within (sym at_z) same);
        lone = lone;
        lone_there = lone_there;
      })) so

  -- all were sought
  pub none_left : (index at : ℕ) (to : List (Option ℕ)) (taken : List Bool) → length objects ≤ index → IsSoFar index at to taken
      → (i j : ℕ) → HaveLoneKey eq (λ (m : Member). m.place) objects others i j → AreAlike p q i j → ¬ (AreFree to taken i j)
  none_left index at to taken whole so i j w alike free = so.none i j w (let h = w.one.listed.1 in omega (arith, h, whole)) alike free

-- the entries with the key of one that is alone
module _ {K : Type 0} (eq : K → K → Bool) (laws : IsEquivalence eq) (entries : List (K × Member)) (at : ℕ) (y : K × Member) (within : at < length entries) (is : y ≡ get_or entries at y) (key : K)
    (same : eq y.0 key ≡ true) (alone : IsLone eq entries at) where
  abbrev has_key : K × Member → Bool
  has_key z = not (not (eq z.0 key))

  twice : (b c : Bool) → b ≡ c → not (not b) ≡ c
  twice true c e = e
  twice false c e = e

  next : (at + 1 < length entries) ⊎ (length entries ≤ at + 1) → prefix_len has_key (drop (at + 1) entries) ≡ 0
  next (inr past) = prefix_len-drop_all has_key entries (at + 1) past
  next (inl inside) = prefix_len-drop_no has_key entries (at + 1) y inside (twice (eq z key) false (go (eq z key) refl))
    where
      z : K
      z = (get_or entries (at + 1) y).0

      apart : eq z y.0 ≡ false
      apart = ap (λ (x : K × Member). eq z x.0) is ∙ alone.behind y inside

      go : (b : Bool) → eq z key ≡ b → eq z key ≡ false
      go false e = e
      go true e = absurd (true≢false (sym (laws.congr z key y.0 e ∙ (laws.symm key y.0 ∙ same)) ∙ apart))

  one_first : prefix_len has_key (drop at entries) ≡ 1
  one_first =
      prefix_len-drop_yes has_key entries at y within (twice (eq (get_or entries at y).0 key) true (ap (λ (x : K × Member). eq x.0 key) (sym is) ∙ same))
      ∙ ap (λ n. 1 + n) (next (cases_lt (at + 1) (length entries)))

  pub run_alone : before_first (λ (z : K × Member). not (eq z.0 key)) (drop at entries) ≡ y ∷ []
  run_alone =
      ap (λ n. take n (drop at entries)) one_first ∙ (ap (take 1) (drop_more entries at y within) ∙ ap (λ (x : K × Member). x ∷ []) (sym is))

-- entries in the order of their keys, and then of what else they hold, are in the order of their keys

pub keys_in_order : {K X : Type 0} (cmp : K → K → Ordering) (other : X → X → Ordering) (entries : List (K × X)) → IsSorted (λ x y. ordering_then (cmp x.0 y.0) (other x.1 y.1)) entries → AreInOrder cmp entries
keys_in_order cmp other entries sorted k d low high =
    first_not_less (cmp (get_or entries (k + 1) d).0 (get_or entries k d).0) (other (get_or entries (k + 1) d).1 (get_or entries k d).1) (sorted k d low high)

-- what was added of lists in order
pub paired_by_key : {K X E : Type 0} (r : Result X E) (cmp : K → K → Ordering) (eq : K → K → Bool) (other : Member → Member → Ordering) (p q : PlanData) (entries others here there : List (K × Member))
    (to : List (Option ℕ)) (taken : List Bool) (more : List (Option ℕ)) (marks : List Bool) → IsPermutation entries here → IsPermutation others there
    → IsSorted (λ x y. ordering_then (cmp x.0 y.0) (other x.1 y.1)) here → IsSorted (λ x y. ordering_then (cmp x.0 y.0) (other x.1 y.1)) there
    → OnOk r (AddsPairs (Shared eq p q here there) to taken more marks) → OnOk r (LeavesNoLone cmp eq p q here there more marks) → OnOk r (PairsByKey eq p q entries others to taken more marks)
paired_by_key r cmp eq other p q entries others here there to taken more marks listed listed_there order other_order adds leaves =
    on_both r (AddsPairs (Shared eq p q here there) to taken more marks) (LeavesNoLone cmp eq p q here there more marks) (PairsByKey eq p q entries others to taken more marks)
    (λ pairs none. record {
      here = here;
      there = there;
      listed = listed;
      listed_there = listed_there;
      pairs = pairs;
      none_left = none (keys_in_order cmp other here order) (keys_in_order cmp other there other_order);
    }) adds leaves
