-- Attributes that are others have a line.
use Rattle.std.proofs.Common.{◌≡◌, ◌≢◌, ◌∙◌, ◌-◌, ◌<◌, ◌≤◌, ◌⊎◌, ◌++◌, ℕ, zero, suc, Bool, true, false, cond, List, [], ◌∷◌, IsPermutation, ap, ap₂, arith, codes, eq-eqb, eqb, eqb-true, filter, get_or, if◌then◌else◌, inl, inr, is_gt, length, map, nat_cmp, ne_eqb, refl, subst, sym, true≢false}
use Rattle.std.specs.Cmp.Lexicographic.{slice_cmp}
use Rattle.std.specs.List.{AllByRecursion, list_any, range_with_len}
use Rattle.std.specs.Ordering.{ordering_then}
use Rattle.std.proofs.lemmas.Bool.{cases_Bool, cases_eq, cases_order, or_cases, or_parts}
use Rattle.std.proofs.lemmas.Cmp.{nat_cmp_total}
use Rattle.std.proofs.lemmas.List.Folds.{list_any-append}
use Rattle.std.proofs.lemmas.List.FromFn.{get_or-range_with_len, length-range_with_len}
use Rattle.std.proofs.lemmas.List.Sorted.{list_any-IsPermutation}
use Rattle.std.proofs.lemmas.Map.Keys.{le_from_not_gt}
use Rattle.edi_line.specs.Bytes.{line_feed}
use Rattle.edi_line.proofs.Truths.{equal_is, first_not_greater}
use Rattle.edi_line.proofs.EachElement.{each_from_places, each_in_any_order, each_weaker}
use Rattle.edi_record.specs.Orders.{text_cmp, value_cmp}
use Rattle.edi_schema.specs.Classes.{Classes}
use Rattle.edi_schema.specs.Sorted.{NeverFalls, sort_by}
use Rattle.edi_schema.proofs.SortedLists.{IsPermutation-sort_by, NeverFalls-sort_by}
use Rattle.edi_plan.specs.Orders.{attribute_cmp}
use Rattle.edi_plan.specs.declared.record.PlanAttribute.{PlanAttribute}
use Rattle.edi_plan.proofs.Orders.{attribute_exact, attribute_total, exact_lists}
use Rattle.edi_compare.proofs.Equal.{permuted}
use Rattle.edi_objects.specs.Attributes.{are_alike, attribute_line, attribute_lines, class_line_at, classes_of_both, is_repeated, of_class, shown_values}
use Rattle.edi_objects.specs.Names.{shown_class}
use Rattle.edi_objects.proofs.AttributeLists.{one_of_all}
use Rattle.edi_objects.proofs.TextLines.{none_each}

-- ---- attributes in order, class by class

own_class : (x : PlanAttribute) (xs : List PlanAttribute) → of_class x.atp (x ∷ xs) ≡ x ∷ of_class x.atp xs
own_class x xs = ap (λ (b : Bool). cond b (x ∷ of_class x.atp xs) (of_class x.atp xs)) (eq-eqb x.atp x.atp refl)

same_class : (c : ℕ) (x : PlanAttribute) (xs : List PlanAttribute) → x.atp ≡ c → of_class c (x ∷ xs) ≡ x ∷ of_class c xs
same_class c x xs e = ap (λ (b : Bool). cond b (x ∷ of_class c xs) (of_class c xs)) (eq-eqb x.atp c e)

other_class : (c : ℕ) (x : PlanAttribute) (xs : List PlanAttribute) → (x.atp ≡ c → ⊥) → of_class c (x ∷ xs) ≡ of_class c xs
other_class c x xs ne = ap (λ (b : Bool). cond b (x ∷ of_class c xs) (of_class c xs)) (ne_eqb x.atp c ne)

none_of_class : (c : ℕ) (xs : List PlanAttribute) → AllByRecursion (λ x. c < x.atp) xs → of_class c xs ≡ []
none_of_class c [] all = refl
none_of_class c (x ∷ xs) all = let less = all.0 in other_class c x xs (λ e. omega (arith, e, less)) ∙ none_of_class c xs all.1

-- those behind one in order are of its class or of later ones
abbrev Rises : List PlanAttribute → Type 0
Rises xs = NeverFalls attribute_cmp xs

later_classes : (c : ℕ) (x : PlanAttribute) (xs : List PlanAttribute) → c < x.atp → Rises (x ∷ xs) → of_class c (x ∷ xs) ≡ []
later_classes c x xs less up = other_class c x xs (λ e. omega (arith, e, less)) ∙ none_of_class c xs
    (each_weaker (λ y. is_gt (attribute_cmp x y) ≡ false) (λ y. c < y.atp)
    (λ y low. let least : x.atp ≤ y.atp = le_from_not_gt x.atp y.atp (first_not_greater (nat_cmp x.atp y.atp) (ordering_then (text_cmp x.tex y.tex) (value_cmp x.value y.value)) low) in omega (arith, least, less)) xs up.0)

tail_same : (c : ℕ) (x y : PlanAttribute) (xs ys : List PlanAttribute) → x ≡ y → of_class c (x ∷ xs) ≡ of_class c (y ∷ ys) → of_class c xs ≡ of_class c ys
tail_same c x y xs ys one same = go (cases_eq x.atp c)
  where
    class : x.atp ≡ y.atp
    class = ap (λ (a : PlanAttribute). a.atp) one

    go : (x.atp ≡ c) ⊎ (x.atp ≡ c → ⊥) → of_class c xs ≡ of_class c ys
    go (inl e) =
        let both : x ∷ of_class c xs ≡ y ∷ of_class c ys = sym (same_class c x xs e) ∙ (same ∙ same_class c y ys (sym class ∙ e)) in
        cc
    go (inr ne) = sym (other_class c x xs ne) ∙ (same ∙ other_class c y ys (λ e. ne (class ∙ e)))

-- attributes in order are those with the same of each class
same_of_each : (xs ys : List PlanAttribute) → Rises xs → Rises ys → ((c : ℕ) → of_class c xs ≡ of_class c ys) → xs ≡ ys
same_of_each [] [] up up' same = refl
same_of_each [] (y ∷ ys) up up' same = let some = own_class y ys in let e : [] ≡ y ∷ of_class y.atp ys = same y.atp ∙ some in absurd cc
same_of_each (x ∷ xs) [] up up' same = let some = own_class x xs in let e : x ∷ of_class x.atp xs ≡ [] = sym some ∙ same x.atp in absurd cc
same_of_each (x ∷ xs) (y ∷ ys) up up' same = go (cases_order x.atp y.atp) (same_of_each xs ys up.1 up'.1)
  where
    go : (x.atp ≡ y.atp) ⊎ ((x.atp < y.atp) ⊎ (y.atp < x.atp)) → (((c : ℕ) → of_class c xs ≡ of_class c ys) → xs ≡ ys) → x ∷ xs ≡ y ∷ ys
    go (inl e) more =
        let heads : x ∷ of_class x.atp xs ≡ y ∷ of_class x.atp ys = sym (own_class x xs) ∙ (same x.atp ∙ same_class x.atp y ys (sym e)) in
        let one : x ≡ y = cc in
        ap₂ (λ (z : PlanAttribute) (zs : List PlanAttribute). z ∷ zs) one (more (λ c. tail_same c x y xs ys one (same c)))
    go (inr (inl less)) more =
        let e : x ∷ of_class x.atp xs ≡ [] = sym (own_class x xs) ∙ (same x.atp ∙ later_classes x.atp y ys less up') in
        absurd cc
    go (inr (inr less)) more =
        let e : [] ≡ y ∷ of_class y.atp ys = sym (later_classes y.atp x xs less up) ∙ (same y.atp ∙ own_class y ys) in
        absurd cc

-- ---- lines of classes

abbrev AreAlike : List PlanAttribute → List PlanAttribute → ℕ → Type 0
AreAlike xs ys c = of_class c xs ≡ of_class c ys

unless_none : (b : Bool) (line : List ℕ) → line ≢ [] → (if b then [] else line) ≡ [] → b ≡ true
unless_none true line some none = refl
unless_none false line some none = absurd (some none)

not_repeated : (b : Bool) (line : List ℕ) → b ≡ false → (if b then [] else line) ≡ [] → line ≡ []
not_repeated true line e none = absurd (true≢false e)
not_repeated false line e none = none

line_alike : (s : Classes) (xs ys : List PlanAttribute) (c : ℕ) → attribute_line s xs ys c ≡ [] → AreAlike xs ys c
line_alike s xs ys c none = exact_lists attribute_cmp attribute_exact (of_class c xs) (of_class c ys)
    (equal_is (slice_cmp attribute_cmp (of_class c xs) (of_class c ys))
    (unless_none (are_alike (of_class c xs) (of_class c ys))
    (codes "    " ++ shown_class s c ++ codes ":" ++ shown_values (of_class c xs) ++ codes " ->" ++ shown_values (of_class c ys) ++ line_feed ∷ []) (λ e. cc) none))

-- what holds of each number that isn't repeated holds of each
first_of_run : (P : ℕ → Type 0) (classes : List ℕ) → ((k : ℕ) → k < length classes → is_repeated classes k ≡ false → P (get_or classes k 0)) → (k : ℕ) → k < length classes → P (get_or classes k 0)
first_of_run P classes each zero h = each zero h refl
first_of_run P classes each (suc k) h = go (is_repeated classes (suc k)) refl (first_of_run P classes each k (omega (arith, h)))
  where
    repeats : (b x : Bool) → b ≡ false → (if b then false else x) ≡ true → x ≡ true
    repeats true x e same = absurd (true≢false e)
    repeats false x e same = same

    before : is_repeated classes (suc k) ≡ true → get_or classes k 0 ≡ get_or classes (suc k) 0
    before e =
        let less : suc k - 1 ≡ k = omega arith in
        sym (ap (λ (m : ℕ). get_or classes m 0) less)
        ∙ eqb-true (get_or classes (suc k - 1) 0) (get_or classes (suc k) 0) (repeats (eqb (suc k) 0) (eqb (get_or classes (suc k - 1) 0) (get_or classes (suc k) 0)) (ne_eqb (suc k) 0 (λ z. omega (arith, z))) e)

    go : (b : Bool) → is_repeated classes (suc k) ≡ b → P (get_or classes k 0) → P (get_or classes (suc k) 0)
    go true e here = subst P (before e) here
    go false e here = each (suc k) h e

among : (P : ℕ → Type 0) (xs : List PlanAttribute) (c : ℕ) → AllByRecursion P (map (λ (a : PlanAttribute). a.atp) xs) → list_any (λ (a : PlanAttribute). eqb a.atp c) xs ≡ true → P c
among P [] c all e = absurd (true≢false (sym e))
among P (x ∷ xs) c all e = go (or_cases (eqb x.atp c) (list_any (λ (a : PlanAttribute). eqb a.atp c) xs) e) (among P xs c all.1)
  where
    go : (eqb x.atp c ≡ true) ⊎ (list_any (λ (a : PlanAttribute). eqb a.atp c) xs ≡ true) → (list_any (λ (a : PlanAttribute). eqb a.atp c) xs ≡ true → P c) → P c
    go (inl h) more = subst P (eqb-true x.atp c h) all.0
    go (inr h) more = more h

none_kept : {X : Type 0} (test : X → Bool) (xs : List X) → list_any test xs ≡ false → filter test xs ≡ []
none_kept test [] e = refl
none_kept test (x ∷ xs) e =
    let halves = or_parts (test x) (list_any test xs) e in
    ap (λ (b : Bool). cond b (x ∷ filter test xs) (filter test xs)) halves.0 ∙ none_kept test xs halves.1

module _ (s : Classes) (here there : List PlanAttribute) (none : attribute_lines s here there ≡ []) where
  abbrev xs : List PlanAttribute
  xs = sort_by attribute_cmp here

  abbrev ys : List PlanAttribute
  ys = sort_by attribute_cmp there

  abbrev both : List PlanAttribute
  both = here ++ there

  abbrev classes : List ℕ
  classes = classes_of_both here there

  unrepeated : (k : ℕ) → k < length classes → is_repeated classes k ≡ false → AreAlike xs ys (get_or classes k 0)
  unrepeated k h e =
      let size = length (classes_of_both here there) in
      let at : get_or (range_with_len 0 size) k 0 ≡ k = omega (arith, get_or-range_with_len 0 size k 0 h) in
      let lines = none_each (class_line_at s (sort_by attribute_cmp here) (sort_by attribute_cmp there) (classes_of_both here there)) (range_with_len 0 size) none in
      let one = one_of_all (λ (m : ℕ). class_line_at s (sort_by attribute_cmp here) (sort_by attribute_cmp there) (classes_of_both here there) m ≡ []) (range_with_len 0 size) lines k 0 (omega (arith, h, length-range_with_len 0 size)) in
      line_alike s (sort_by attribute_cmp here) (sort_by attribute_cmp there) (get_or (classes_of_both here there) k 0)
      (not_repeated (is_repeated (classes_of_both here there) k) (attribute_line s (sort_by attribute_cmp here) (sort_by attribute_cmp there) (get_or (classes_of_both here there) k 0)) e
      (subst (λ (m : ℕ). class_line_at s (sort_by attribute_cmp here) (sort_by attribute_cmp there) (classes_of_both here there) m ≡ []) at one))

  all_alike : AllByRecursion (AreAlike xs ys) (map (λ (a : PlanAttribute). a.atp) both)
  all_alike = each_in_any_order (AreAlike xs ys) classes (map (λ (a : PlanAttribute). a.atp) (here ++ there)) (IsPermutation-sort_by nat_cmp nat_cmp_total (map (λ (a : PlanAttribute). a.atp) (here ++ there)))
      (each_from_places (AreAlike xs ys) classes 0 (first_of_run (AreAlike xs ys) classes unrepeated))

  none_sorted : (c : ℕ) (zs : List PlanAttribute) → list_any (λ (a : PlanAttribute). eqb a.atp c) zs ≡ false → of_class c (sort_by attribute_cmp zs) ≡ []
  none_sorted c zs e = none_kept (λ (a : PlanAttribute). eqb a.atp c) (sort_by attribute_cmp zs)
      (list_any-IsPermutation (λ (a : PlanAttribute). eqb a.atp c) (sort_by attribute_cmp zs) zs (IsPermutation-sort_by attribute_cmp attribute_total zs) ∙ e)

  each_alike : (c : ℕ) → AreAlike xs ys c
  each_alike c = go (cases_Bool (list_any test (here ++ there)))
    where
      test : PlanAttribute → Bool
      test = λ (a : PlanAttribute). eqb a.atp c

      go : (list_any test (here ++ there) ≡ true) ⊎ (list_any test (here ++ there) ≡ false) → AreAlike xs ys c
      go (inl e) = among (AreAlike xs ys) (here ++ there) c all_alike e
      go (inr e) =
          let halves = or_parts (list_any test here) (list_any test there) (sym (list_any-append test here there) ∙ e) in
          none_sorted c here halves.0 ∙ sym (none_sorted c there halves.1)

  -- attributes of which no class has a line are the same
  pub unsaid_same : IsPermutation here there
  unsaid_same = permuted attribute_cmp attribute_total attribute_exact here there
      (same_of_each (sort_by attribute_cmp here) (sort_by attribute_cmp there) (NeverFalls-sort_by attribute_cmp attribute_total here) (NeverFalls-sort_by attribute_cmp attribute_total there) each_alike)
