-- Marks of the places of members, one member more.
use Rattle.std.proofs.Common.{◌≡◌, ◌≢◌, ℕ, ◌+◌, ◌<◌, ◌≤◌, ◌⊎◌, inl, inr, Bool, true, false, true≢false, All, List, length, get_or, set, sym, ap, ◌∙◌, subst, arith, length-set}
use Rattle.std.proofs.lemmas.Bool.{cases_eq}
use Rattle.std.proofs.lemmas.List.{get_or_default}
use Rattle.edi_record.specs.declared.record.Kind.{Kind}
use Rattle.edi_plan.specs.Places.{places_of}
use Rattle.edi_plan.specs.Plans.{PlanData}
use Rattle.edi_plan.proofs.PlaceLemmas.{place_there}
use Rattle.edi_topo.specs.Marks.{IsPlaceOfMark, AreMarksOf}
use Rattle.edi_topo.specs.inner.Placed.{IsPlaceOfMarkBelow}
use Rattle.edi_topo.proofs.Marked.{marked}

module _ (places : List ℕ) (marks : List Bool) where
  more : (n x : ℕ) → IsPlaceOfMarkBelow places marks n x → IsPlaceOfMarkBelow places marks (n + 1) x
  more n x d = (d.0, let l = d.1 in omega (arith, l), d.2, d.3, d.4)

  fewer : (n x : ℕ) (d : IsPlaceOfMarkBelow places marks (n + 1) x) → d.0 ≢ n → IsPlaceOfMarkBelow places marks n x
  fewer n x d apart = (d.0, below d.0 d.1 apart, d.2, d.3, d.4)
    where
      below : (k : ℕ) → k < n + 1 → k ≢ n → k < n
      below k h ne = grind arith

  pub none_placed : (count : ℕ) (xs : List Bool) → length xs ≡ count → ((x : ℕ) → get_or xs x false ≡ false) → AreMarksOf count (IsPlaceOfMarkBelow places marks 0) xs
  none_placed count xs long none = record { all = long; each = λ x. (λ t. absurd (true≢false (sym t ∙ none x)), λ d. absurd (omega (arith, d.1))) }

  module _ (n : ℕ) (here : n < length places) (count : ℕ) (xs : List Bool) (before : AreMarksOf count (IsPlaceOfMarkBelow places marks n) xs) where
    pub one_placed : get_or marks n false ≡ true → get_or places n 0 < length xs → AreMarksOf count (IsPlaceOfMarkBelow places marks (n + 1)) (set xs (get_or places n 0) true)
    one_placed is fits = record {
      all = length-set xs (get_or places n 0) true ∙ before.all;
      each = λ x. let both = marked xs (get_or places n 0) x fits in (λ t. there x (both.0 t), λ d. both.1 (back x d (cases_eq d.0 n)));
    }
      where
        there : (x : ℕ) → (get_or xs x false ≡ true) ⊎ (x ≡ get_or places n 0) → IsPlaceOfMarkBelow places marks (n + 1) x
        there x (inl t) = more n x ((before.each x).0 t)
        there x (inr e) = (n, omega arith, here, sym e, is)

        back : (x : ℕ) (d : IsPlaceOfMarkBelow places marks (n + 1) x) → (d.0 ≡ n) ⊎ (d.0 ≡ n → ⊥) → (get_or xs x false ≡ true) ⊎ (x ≡ get_or places n 0)
        back x d (inl e) = inr (sym d.3 ∙ ap (λ k. get_or places k 0) e)
        back x d (inr ne) = inl ((before.each x).1 (fewer n x d ne))

    pub not_placed : get_or marks n false ≡ false → AreMarksOf count (IsPlaceOfMarkBelow places marks (n + 1)) xs
    not_placed not = record { all = before.all; each = λ x. (λ t. more n x ((before.each x).0 t), λ d. (before.each x).1 (fewer n x d (elsewhere x d))) }
      where
        elsewhere : (x : ℕ) (d : IsPlaceOfMarkBelow places marks (n + 1) x) → d.0 ≢ n
        elsewhere x d e = true≢false (sym (subst (λ k. get_or marks k false ≡ true) e d.4) ∙ not)

  pub all_placed : (n count : ℕ) (xs : List Bool) → length places ≤ n → AreMarksOf count (IsPlaceOfMarkBelow places marks n) xs → AreMarksOf count (IsPlaceOfMark places marks) xs
  all_placed n count xs past are = record {
    all = are.all;
    each = λ x. (λ t. let d = (are.each x).0 t in (d.0, d.2, d.3, d.4), λ d. let l = d.1 in (are.each x).1 (d.0, omega (arith, l, past), l, d.2, d.3));
  }

module _ (kind : Kind) (p : PlanData) where
  -- the members of a type are places of the plan
  pub places_within : (places : List ℕ) (count : ℕ) → places ≡ places_of kind p → count ≡ length p.list → All (λ place. place < count) places
  places_within places count e f k d h =
      let here : k < length (places_of kind p) = subst (λ xs. k < length xs) e h in
      subst (λ n. get_or places k d < n) (sym f) (subst (λ xs. get_or xs k d < length p.list) (sym e)
      (subst (λ n. n < length p.list) (sym (get_or_default (places_of kind p) k d 0 here)) (place_there kind p k here)))

  -- the places of the members with one property are those with another
  pub marks_at_places : (Tied Has : ℕ → Type 0) → ((m : ℕ) → Tied m → m < length (places_of kind p)) → ((m : ℕ) → Tied m → Has (get_or (places_of kind p) m 0)) → ((k : ℕ) → Has k → (m : ℕ) × Tied m × (get_or (places_of kind p) m 0 ≡ k))
      → (marks read by_place : List Bool) (places : List ℕ) (size count : ℕ) → read ≡ marks → places ≡ places_of kind p → count ≡ length p.list
      → AreMarksOf size Tied marks → AreMarksOf count (IsPlaceOfMark places read) by_place → AreMarksOf (length p.list) Has by_place
  marks_at_places Tied Has within has member marks read by_place places size count same e f tied by = record {
    all = placed.all;
    each = λ k. (
      λ t. let d = (placed.each k).0 t in subst Has d.2 (has d.0 ((tied.each d.0).0 d.3)),
      λ h. let t = member k h in (placed.each k).1 (t.0, within t.0 t.1, t.2, (tied.each t.0).1 t.1),
    );
  }
    where
      placed : AreMarksOf (length p.list) (IsPlaceOfMark (places_of kind p) marks) by_place
      placed = subst (λ n. AreMarksOf n (IsPlaceOfMark (places_of kind p) marks) by_place) f
          (subst (λ xs. AreMarksOf count (IsPlaceOfMark xs marks) by_place) e (subst (λ ms. AreMarksOf count (IsPlaceOfMark places ms) by_place) same by))
