-- Positions that put ends in order: how they are found, what they make of keys, and when they stay.
use Rattle.std.proofs.Common.{◌≡◌, ◌≢◌, ◌⊎◌, inl, inr, set, ℕ, zero, suc, ◌+◌, ◌-◌, ◌<◌, ◌≤◌, Bool, true, false, cond, true≢false, List, [], ◌∷◌, ◌++◌, map, length, get_or, take, drop, refl, add-one, sym, ap, ap₂, ◌∙◌, subst, arith, IsPermutation, IsSorted, Ordering, is_gt, nat_cmp}
use Rattle.std.specs.Cmp.{IsTotalOrder}
use Rattle.std.specs.List.{AllByRecursion}
use Rattle.std.specs.Ordering.{ordering_then}
use Rattle.std.proofs.lemmas.Cmp.{then_total, on_total, nat_cmp_total}
use Rattle.std.proofs.lemmas.Bool.{cases_eq, cases_lt}
use Rattle.std.proofs.lemmas.List.{append_assoc, get_or_append_left, get_or-map, get_or_push, get_or-set_same, get_or-set_other, length-map, map-append, take_more}
use Rattle.std.proofs.lemmas.List.Elements.{All-from_recursion, All-get_or, recursion_from_All}
use Rattle.std.proofs.lemmas.List.Sorted.{All-permutation, IsPermutation-map, IsPermutation-refl}
use Rattle.std.proofs.lemmas.Map.Lookups.{exact_unsigned}
use Rattle.edi_line.proofs.EachElement.{each_in_any_order, each_mapped, each_weaker}
use Rattle.edi_line.proofs.Truths.{first_not_greater}
use Rattle.edi_record.specs.Orders.{text_cmp}
use Rattle.edi_record.specs.declared.record.Kind.{Kind}
use Rattle.edi_record.specs.declared.record.Kind.TheVariants.{Pno, Par, Pfe, Fea, Lnk}
use Rattle.edi_schema.specs.Sorted.{NeverFalls, sort_by}
use Rattle.edi_schema.proofs.SortedLists.{count_by-cons, counts_from_permutation, never_falls_from_sorted, same_order, NeverFalls-sort_by, IsPermutation-sort_by}
use Rattle.edi_plan.specs.Plans.{PlanData, record_at, kind_rank, is_object, rest_of}
use Rattle.edi_plan.specs.declared.record.PlanEnd.{PlanEnd}
use Rattle.edi_plan.proofs.PlaceLemmas.{one_kind}
use Rattle.edi_topo.specs.Ranking.{keyed}
use Rattle.edi_topo.proofs.KeyOrder.{AreMembers}
use Rattle.edi_rank.specs.EndOrder.{GivesEach, PutsInOrder, ends_at, no_end}
use Rattle.edi_rank.specs.Keys.{end_cmp, ends_key, numbered}
use Rattle.edi_rank.specs.Pieces.{object_count}
use Rattle.edi_rank.specs.contracts.keys.NumberedEndOrd.TheImpl.{ghosts as numbered_ends}
use Rattle.edi_rank.specs.declared.keys.NumberedEnd.{NumberedEnd}
use Rattle.edi_rank.proofs.KeyOrders.{end_order}
use Rattle.edi_rank.proofs.Orders.{end_total, end_exact}
use Rattle.edi_rank.proofs.Renumbered.{then_alike}
use Rattle.edi_rank.proofs.SameLaws.{map_alike, map-map}

-- ends by their positions

abbrev pub end_at : List PlanEnd → ℕ → PlanEnd
end_at ends i = get_or ends i no_end

pub length-ends_at : (positions : List ℕ) (ends : List PlanEnd) → GivesEach positions ends → length (ends_at positions ends) ≡ length ends
length-ends_at positions ends given = Rattle.std.proofs.lemmas.List.Sorted.length_permutation ends (ends_at positions ends) given.each

pub hold_at : (P : PlanEnd → Type 0) (positions : List ℕ) (ends : List PlanEnd) → GivesEach positions ends → AllByRecursion P ends → AllByRecursion P (ends_at positions ends)
hold_at P positions ends given all = each_in_any_order P ends (ends_at positions ends) given.each all

pub rest_hold : (P : PlanEnd → Type 0) (ends : List PlanEnd) → AllByRecursion P ends → AllByRecursion P (rest_of ends)
rest_hold P [] all = tt
rest_hold P (e ∷ ends) all = all.1

-- as many positions as ends, where there are some
pub as_many : (positions : List ℕ) (ends : List PlanEnd) → GivesEach positions ends → 1 ≤ length positions → length positions ≡ length ends
as_many [] ends given h = absurd (omega (arith, h))
as_many (i ∷ positions) ends given h = sym (length-map (i ∷ positions) (end_at ends)) ∙ length-ends_at (i ∷ positions) ends given

pub position_within : (positions : List ℕ) (ends : List PlanEnd) → GivesEach positions ends → (index : ℕ) → index < length positions → get_or positions index 0 < length ends
position_within positions ends given index h = All-get_or (λ i. i < length ends) positions index 0 h (All-from_recursion (λ i. i < length ends) positions given.within)

-- the end at an index of the order
pub end_by_position : (positions : List ℕ) (ends : List PlanEnd) → GivesEach positions ends → 1 ≤ length positions → (index : ℕ) → index < length ends → get_or (ends_at positions ends) index no_end ≡ end_at ends (get_or positions index 0)
end_by_position [] ends given some index h = absurd (omega (arith, some))
end_by_position (i ∷ positions) ends given some index h = get_or-map (end_at ends) (i ∷ positions) index 0 no_end (let many = as_many (i ∷ positions) ends given some in omega (arith, many, h))

pub end_there : (P : PlanEnd → Type 0) (positions : List ℕ) (ends : List PlanEnd) → GivesEach positions ends → AllByRecursion P ends → (index : ℕ) → index < length ends → P (get_or (ends_at positions ends) index no_end)
end_there P positions ends given all index h =
    All-get_or P (ends_at positions ends) index no_end (let long = length-ends_at positions ends given in omega (arith, long, h)) (All-from_recursion P (ends_at positions ends) (hold_at P positions ends given all))

-- loops

pub take_whole : {X : Type 0} (xs : List X) (n : ℕ) → length xs ≤ n → take n xs ≡ xs
take_whole [] zero h = refl
take_whole [] (suc n) h = refl
take_whole (x ∷ xs) zero h = absurd (omega (arith, h))
take_whole (x ∷ xs) (suc n) h = ap (λ ys. x ∷ ys) (take_whole xs n (omega (arith, h)))

-- one more of a list is mapped
pub mapped_more : {X Y : Type 0} (f : X → Y) (xs : List X) (i : ℕ) (d : X) (before done more : List Y) → i < length xs → done ≡ before ++ map f (take i xs) → more ≡ done ++ f (get_or xs i d) ∷ [] → more ≡ before ++ map f (take (i + 1) xs)
mapped_more f xs i d before done more h so_far next =
    next ∙ (ap (λ ys. ys ++ f (get_or xs i d) ∷ []) so_far ∙ (append_assoc before (map f (take i xs)) (f (get_or xs i d) ∷ [])
    ∙ ap (λ ys. before ++ ys) (sym (ap (map f) (take_more xs i d h) ∙ map-append f (take i xs) (get_or xs i d ∷ [])))))

-- what holds of each element by its place holds of them and one more
pub held_more : {X : Type 0} (P : ℕ → X → Type 0) (xs ys : List X) (y d : X) (n : ℕ) → ys ≡ xs ++ y ∷ [] → length xs ≡ n → ((k : ℕ) → k < n → P k (get_or xs k d)) → P n y → (k : ℕ) → k < n + 1 → P k (get_or ys k d)
held_more P xs ys y d n is long each last k h = subst (λ zs. P k (get_or zs k d)) (sym is) (go (cases_lt k n))
  where
    go : (k < n) ⊎ (n ≤ k) → P k (get_or (xs ++ y ∷ []) k d)
    go (inl less) = subst (P k) (sym (get_or_append_left xs (y ∷ []) d k (omega (arith, less, long)))) (each k less)
    go (inr le) = let e : n ≡ k = omega (arith, le, h) in subst (λ j. P j (get_or (xs ++ y ∷ []) j d)) e (subst (P n) (sym (get_or_push xs y d n long)) last)

-- what holds of each element by its place, but for one, holds of all where that one is set
pub held_set : {X : Type 0} (P : ℕ → X → Type 0) (xs : List X) (y d : X) (n k : ℕ) → n < length xs → P n y → (k ≢ n → P k (get_or xs k d)) → P k (get_or (set xs n y) k d)
held_set P xs y d n k h here other = go (cases_eq k n)
  where
    go : (k ≡ n) ⊎ (k ≡ n → ⊥) → P k (get_or (set xs n y) k d)
    go (inl e) = subst (λ j. P j (get_or (set xs n y) j d)) (sym e) (subst (P n) (sym (get_or-set_same xs n y d h)) here)
    go (inr apart) = subst (P k) (sym (get_or-set_other xs n k y d apart)) (other apart)

pub earlier_or_few : {F : Type 0} (n k : ℕ) → (k ≡ n → ⊥) → (k < n + 1) ⊎ F → (k < n) ⊎ F
earlier_or_few {F} n k other (inl h) = go (cases_lt k n)
  where
    go : (k < n) ⊎ (n ≤ k) → (k < n) ⊎ F
    go (inl less) = inl less
    go (inr le) = absurd (other (omega (arith, le, h)))
earlier_or_few n k other (inr few) = inr few

-- pairs in order

abbrev pub pair_cmp : NumberedEnd × ℕ → NumberedEnd × ℕ → Ordering
pair_cmp a b = ordering_then (end_cmp a.0 b.0) (nat_cmp a.1 b.1)

abbrev pub derived_pair_cmp : NumberedEnd × ℕ → NumberedEnd × ℕ → Ordering
derived_pair_cmp a b = ordering_then (numbered_ends.cmp a.0 b.0) (nat_cmp a.1 b.1)

pub pair_order : (a b : NumberedEnd × ℕ) → derived_pair_cmp a b ≡ pair_cmp a b
pair_order a b = ap (λ o. ordering_then o (nat_cmp a.1 b.1)) (end_order a.0 b.0)

pub pair_total : IsTotalOrder pair_cmp
pair_total = then_total (on_total (λ (a : NumberedEnd × ℕ). a.0) end_total) (on_total (λ (a : NumberedEnd × ℕ). a.1) nat_cmp_total)

firsts_never_fall : (pairs : List (NumberedEnd × ℕ)) → NeverFalls pair_cmp pairs → NeverFalls end_cmp (map (λ pair. pair.0) pairs)
firsts_never_fall [] up = tt
firsts_never_fall (x ∷ pairs) up = (
  each_mapped (λ y. is_gt (end_cmp x.0 y) ≡ false) (λ (pair : NumberedEnd × ℕ). pair.0) pairs
      (each_weaker (λ y. is_gt (pair_cmp x y) ≡ false) (λ (y : NumberedEnd × ℕ). is_gt (end_cmp x.0 y.0) ≡ false) (λ y h. first_not_greater (end_cmp x.0 y.0) (nat_cmp x.1 y.1) h) pairs up.0),
  firsts_never_fall pairs up.1,
)

module _ {K : Type 0} (key : ℕ → K) (ends : List PlanEnd) where
  keyed_ends : (n : ℕ) → n ≤ length ends → map (λ (pair : K × ℕ). end_at ends pair.1) (keyed key n) ≡ take n ends
  keyed_ends zero h = refl
  keyed_ends (suc n) h =
      map-append (λ (pair : K × ℕ). end_at ends pair.1) (keyed key n) ((key n, n) ∷ [])
      ∙ (ap (λ xs. xs ++ end_at ends n ∷ []) (keyed_ends n (omega (arith, h))) ∙ sym (ap (λ m. take m ends) (sym (add-one n)) ∙ take_more ends n no_end (omega (arith, h))))

module _ (p : PlanData) (number : ℕ → ℕ) (ends : List PlanEnd) where
  abbrev end_key : ℕ → NumberedEnd
  end_key i = numbered p number (end_at ends i)

  abbrev IsOwn : NumberedEnd × ℕ → Type 0
  IsOwn pair = (pair.1 < length ends) × (pair.0 ≡ end_key pair.1)

  -- one end at most stands in order
  pub few_in_order : length ends < 2 → PutsInOrder p number [] ends
  few_in_order h = (record { within = tt; each = IsPermutation-refl ends }, go ends h)
    where
      go : (xs : List PlanEnd) → length xs < 2 → NeverFalls end_cmp (map (numbered p number) xs)
      go [] h = tt
      go (x ∷ []) h = (tt, tt)
      go (x ∷ y ∷ xs) h = absurd (omega (arith, h))

  -- the positions of sorted pairs put the ends in order
  pub pairs_in_order : (pairs : List (NumberedEnd × ℕ)) → 0 < length ends → IsPermutation (keyed end_key (length ends)) pairs → IsSorted derived_pair_cmp pairs → PutsInOrder p number (map (λ pair. pair.1) pairs) ends
  pairs_in_order pairs some same sorted = (
    record {
      within = each_mapped (λ i. i < length ends) (λ (pair : NumberedEnd × ℕ). pair.1) pairs (each_weaker IsOwn (λ pair. pair.1 < length ends) (λ pair h. h.0) pairs own);
      each = subst (IsPermutation ends) (sym there) (subst (λ xs. IsPermutation xs (map (λ pair. end_at ends pair.1) pairs)) all_ends (IsPermutation-map (λ (pair : NumberedEnd × ℕ). end_at ends pair.1) _ _ same));
    },
    subst (NeverFalls end_cmp) keys (firsts_never_fall pairs (never_falls_from_sorted pair_cmp pair_total pairs (subst (λ cmp. IsSorted cmp pairs) (λ i a b. pair_order a b i) sorted))),
  )
    where
      own : AllByRecursion IsOwn pairs
      own = recursion_from_All IsOwn pairs (All-permutation IsOwn _ _ same (AreMembers end_key (length ends)))

      all_ends : map (λ (pair : NumberedEnd × ℕ). end_at ends pair.1) (keyed end_key (length ends)) ≡ ends
      all_ends = keyed_ends end_key ends (length ends) (omega arith) ∙ Rattle.std.proofs.Math.Seq.take-length ends

      at_all : (qs : List (NumberedEnd × ℕ)) → 0 < length qs → ends_at (map (λ pair. pair.1) qs) ends ≡ map (λ pair. end_at ends pair.1) qs
      at_all [] h = absurd (omega (arith, h))
      at_all (q ∷ qs) h = ap (λ xs. end_at ends q.1 ∷ xs) (map-map (end_at ends) (λ (pair : NumberedEnd × ℕ). pair.1) qs)

      many : 0 < length pairs
      many = let long = Rattle.std.proofs.lemmas.List.Sorted.length_permutation _ _ same in let keys = Rattle.edi_topo.proofs.KeyOrder.length-keyed end_key (length ends) in omega (arith, some, long, keys)

      there : ends_at (map (λ pair. pair.1) pairs) ends ≡ map (λ pair. end_at ends pair.1) pairs
      there = at_all pairs many

      keys : map (λ (pair : NumberedEnd × ℕ). pair.0) pairs ≡ map (numbered p number) (ends_at (map (λ pair. pair.1) pairs) ends)
      keys = map_alike IsOwn (λ pair. pair.0) (λ pair. end_key pair.1) (λ pair h. h.1) pairs own
          ∙ (sym (map-map (numbered p number) (λ (pair : NumberedEnd × ℕ). end_at ends pair.1) pairs) ∙ ap (map (numbered p number)) (sym there))

  -- by positions that put them in order the ends are sorted
  pub in_order_sorted : (positions : List ℕ) → PutsInOrder p number positions ends → map (numbered p number) (ends_at positions ends) ≡ sort_by end_cmp (map (numbered p number) ends)
  in_order_sorted positions puts =
      same_order end_cmp end_total end_exact _ _ puts.1 (NeverFalls-sort_by end_cmp end_total (map (numbered p number) ends))
      (λ test. sym (counts_from_permutation _ _ (IsPermutation-map (numbered p number) ends (ends_at positions ends) puts.0.each) test)
      ∙ sym (counts_from_permutation _ _ (IsPermutation-sort_by end_cmp end_total (map (numbered p number) ends)) test))

-- the origin and the others in their order
pub ends_keyed : (p : PlanData) (number : ℕ → ℕ) (order : List ℕ) (ends : List PlanEnd) (origin : PlanEnd) → 1 ≤ length ends → origin ≡ get_or ends 0 origin → PutsInOrder p number order (rest_of ends)
    → numbered p number origin ∷ map (numbered p number) (ends_at order (take (length ends - 1) (drop 1 ends))) ≡ ends_key p number ends
ends_keyed p number order [] origin some is puts = absurd (omega (arith, some))
ends_keyed p number order (e ∷ ends) origin some is puts =
    ap₂ ◌∷◌ (ap (numbered p number) is) (ap (λ xs. map (numbered p number) (ends_at order xs)) (take_whole ends (length (e ∷ ends) - 1) (omega arith)) ∙ in_order_sorted p number ends order puts)

-- other numbers

pub no_object : (kind : Kind) → is_object kind ≡ false → kind ≢ Fea
no_object Pno h e = cc
no_object Par h e = cc
no_object Pfe h e = cc
no_object Fea h e = true≢false h
no_object Lnk h e = cc

module _ (p : PlanData) (one other : ℕ → ℕ) where
  abbrev is_object_end : PlanEnd → Bool
  is_object_end e = is_object (record_at p e.target).kind

  -- the numbers are the same for what is no object
  abbrev pub Renumbered : PlanEnd → Type 0
  Renumbered e = is_object_end e ≡ false → one e.target ≡ other e.target

  pair_alike : (d e : PlanEnd) → (is_object_end d ≡ true → is_object_end e ≡ false) → Renumbered d → Renumbered e
      → end_cmp (numbered p one d) (numbered p one e) ≡ end_cmp (numbered p other d) (numbered p other e)
  pair_alike d e apart first second = then_alike (nat_cmp (kind_rank (record_at p d.target).kind) (kind_rank (record_at p e.target).kind)) _ _ (λ tie. tied
      (one_kind (record_at p d.target).kind (record_at p e.target).kind (exact_unsigned (kind_rank (record_at p d.target).kind) (kind_rank (record_at p e.target).kind) tie)) (is_object_end d) refl)
    where
      tied : (record_at p d.target).kind ≡ (record_at p e.target).kind → (b : Bool) → is_object_end d ≡ b
          → ordering_then (nat_cmp (one d.target) (one e.target)) (text_cmp d.sns e.sns) ≡ ordering_then (nat_cmp (other d.target) (other e.target)) (text_cmp d.sns e.sns)
      tied same true is = absurd (true≢false (sym is ∙ (ap is_object same ∙ apart is)))
      tied same false is = ap₂ (λ a b. ordering_then (nat_cmp a b) (text_cmp d.sns e.sns)) (first is) (second (sym (ap is_object same) ∙ is))

  none_more : (xs : List PlanEnd) → object_count p xs ≡ 0 → AllByRecursion (λ e. is_object_end e ≡ false) xs
  none_more [] h = tt
  none_more (x ∷ xs) h = go (is_object_end x) refl (sym (count_by-cons is_object_end x xs) ∙ h) (none_more xs)
    where
      go : (b : Bool) → is_object_end x ≡ b → cond b 1 0 + object_count p xs ≡ 0 → (object_count p xs ≡ 0 → AllByRecursion (λ e. is_object_end e ≡ false) xs)
          → (is_object_end x ≡ false) × AllByRecursion (λ e. is_object_end e ≡ false) xs
      go true e h more = absurd (omega (arith, h))
      go false e h more = (e, more (omega (arith, h)))

  each_of : {P : PlanEnd → Type 0} → ((e : PlanEnd) → P e) → (xs : List PlanEnd) → AllByRecursion P xs
  each_of h [] = tt
  each_of h (x ∷ xs) = (h x, each_of h xs)

  behind : (x : PlanEnd) (xs : List PlanEnd) → object_count p (x ∷ xs) ≤ 1 → AllByRecursion (λ e. is_object_end x ≡ true → is_object_end e ≡ false) xs
  behind x xs h = go (is_object_end x) refl
    where
      go : (b : Bool) → is_object_end x ≡ b → AllByRecursion (λ e. is_object_end x ≡ true → is_object_end e ≡ false) xs
      go true is =
          let count = count_by-cons is_object_end x xs in
          let here = ap (λ (b : Bool). cond {A = ℕ} b 1 0) is in
          each_weaker (λ e. is_object_end e ≡ false) (λ e. is_object_end x ≡ true → is_object_end e ≡ false) (λ e g f. g) xs (none_more xs (omega (arith, count, here, h)))
      go false is = each_of (λ e f. absurd (true≢false (sym f ∙ is))) xs

  never_fall_still : (xs : List PlanEnd) → object_count p xs ≤ 1 → AllByRecursion Renumbered xs → NeverFalls end_cmp (map (numbered p one) xs) → NeverFalls end_cmp (map (numbered p other) xs)
  never_fall_still [] few all up = tt
  never_fall_still (x ∷ xs) few all up = (
    still xs (behind x xs few) all.1 up.0,
    never_fall_still xs (let count = count_by-cons is_object_end x xs in omega (arith, count, few)) all.1 up.1,
  )
    where
      still : (ys : List PlanEnd) → AllByRecursion (λ e. is_object_end x ≡ true → is_object_end e ≡ false) ys → AllByRecursion Renumbered ys
          → AllByRecursion (λ y. is_gt (end_cmp (numbered p one x) y) ≡ false) (map (numbered p one) ys) → AllByRecursion (λ y. is_gt (end_cmp (numbered p other x) y) ≡ false) (map (numbered p other) ys)
      still [] apart same below = tt
      still (y ∷ ys) apart same below = (sym (ap is_gt (pair_alike x y apart.0 all.0 same.0)) ∙ below.0, still ys apart.1 same.1 below.1)

  -- where at most one end is an object, the order stays when the objects get numbers
  pub in_order_still : (positions : List ℕ) (ends : List PlanEnd) → object_count p ends ≤ 1 → AllByRecursion Renumbered ends → PutsInOrder p one positions ends → PutsInOrder p other positions ends
  in_order_still positions ends few all puts = (
    puts.0,
    never_fall_still (ends_at positions ends) (let count = counts_from_permutation ends (ends_at positions ends) puts.0.each is_object_end in omega (arith, count, few)) (hold_at Renumbered positions ends puts.0 all) puts.1,
  )

  -- where the numbers are the same, so is the order
  pub in_order_alike : (positions : List ℕ) (ends : List PlanEnd) → AllByRecursion (λ e. one e.target ≡ other e.target) ends → PutsInOrder p one positions ends → PutsInOrder p other positions ends
  in_order_alike positions ends all puts = (
    puts.0,
    subst (NeverFalls end_cmp) (map_alike (λ e. one e.target ≡ other e.target) (numbered p one) (numbered p other) (λ e h. ap (λ n. record { kind = (record_at p e.target).kind; number = n; sns = e.sns }) h)
        (ends_at positions ends) (hold_at (λ e. one e.target ≡ other e.target) positions ends puts.0 all)) puts.1,
  )
