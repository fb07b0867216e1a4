-- A plan carries onto the plan that labels make of it.
use Rattle.std.proofs.Common.{◌≡◌, ℕ, zero, suc, ◌+◌, ◌-◌, ◌<◌, ◌≤◌, ◌⊎◌, inl, inr, Bool, true, true≢false, List, [], ◌∷◌, ◌++◌, map, length, length-append, get_or, Some, option_map, refl, sym, ap, ◌∙◌, subst, arith, IsPermutation, ◌&&◌, not}
use Rattle.std.specs.Cmp.{IsTotalOrder}
use Rattle.std.specs.List.{slice_get}
use Rattle.std.proofs.lemmas.Bool.{cases_lt}
use Rattle.std.proofs.lemmas.Cmp.{on_total}
use Rattle.std.proofs.lemmas.List.{get_or-map, length-map}
use Rattle.std.proofs.lemmas.List.Sorted.{IsPermutation-refl, IsPermutation-sym, IsPermutation-map}
use Rattle.std.proofs.lemmas.Option.{slice_get-get_or, get_or_from_slice_get, slice_get_within}
use Rattle.edi_record.specs.declared.record.Kind.{Kind}
use Rattle.edi_record.specs.declared.record.Kind.TheVariants.{Pno, Par, Pfe, Fea, Lnk}
use Rattle.edi_schema.specs.Classes.{Classes}
use Rattle.edi_schema.proofs.SortedLists.{IsPermutation-sort_by}
use Rattle.edi_plan.specs.Orders.{attribute_cmp}
use Rattle.edi_plan.specs.Plans.{PlanData, IsPlace, record_at, blank, is_arc, first_of, rest_of}
use Rattle.edi_plan.specs.declared.record.PlanEnd.{PlanEnd}
use Rattle.edi_plan.proofs.Orders.{attribute_total}
use Rattle.edi_rank.specs.Arranged.{offset, new_place, old_places, numbered_cmp, ordered_ends, arranged_record, arranged}
use Rattle.edi_rank.specs.Keys.{numbered}
use Rattle.edi_rank.specs.Labelling.{Labelling, AreLabels, order_of, number_of, turned_at}
use Rattle.edi_rank.specs.Same.{OneToOne, moved, CarriesRecord, Carries}
use Rattle.edi_rank.specs.Turned.{is_forward}
use Rattle.edi_rank.proofs.Orders.{end_total}

-- lists one behind the other

found_before : (xs ys : List ℕ) (i j k : ℕ) → j ≡ i → slice_get xs i ≡ Some k → slice_get (xs ++ ys) j ≡ Some k
found_before [] ys i j k e h = absurd (omega (arith, slice_get_within [] i k h))
found_before (x ∷ xs) ys zero zero k e h = h
found_before (x ∷ xs) ys zero (suc j) k e h = absurd (omega (arith, e))
found_before (x ∷ xs) ys (suc i) zero k e h = absurd (omega (arith, e))
found_before (x ∷ xs) ys (suc i) (suc j) k e h = found_before xs ys i j k (omega (arith, e)) h

found_behind : (xs ys : List ℕ) (i j k : ℕ) → j ≡ length xs + i → slice_get ys i ≡ Some k → slice_get (xs ++ ys) j ≡ Some k
found_behind [] ys i j k e h = let f : i ≡ j = omega (arith, e) in subst (λ n. slice_get ys n ≡ Some k) f h
found_behind (x ∷ xs) ys i zero k e h = absurd (omega (arith, e))
found_behind (x ∷ xs) ys i (suc j) k e h = found_behind xs ys i j k (omega (arith, e)) h

split_at : (xs ys : List ℕ) (j : ℕ) → j < length (xs ++ ys) → (j < length xs) ⊎ ((i : ℕ) × (j ≡ length xs + i) × (i < length ys))
split_at xs ys j h = go (cases_lt j (length xs))
  where
    go : (j < length xs) ⊎ (length xs ≤ j) → (j < length xs) ⊎ ((i : ℕ) × (j ≡ length xs + i) × (i < length ys))
    go (inl less) = inl less
    go (inr more) = inr (j - length xs, omega arith, omega (arith, length-append xs ys))

-- what stands in the order of a kind stands behind the orders of the kinds before it

module _ (l : Labelling) where
  abbrev two : List ℕ
  two = l.nodes ++ l.arcs

  abbrev three : List ℕ
  three = two ++ l.faces

  abbrev four : List ℕ
  four = three ++ l.objects

  two_long : length two ≡ offset l Pfe
  two_long = length-append l.nodes l.arcs

  three_long : length three ≡ offset l Fea
  three_long = omega (arith, length-append two l.faces, two_long)

  four_long : length four ≡ offset l Lnk
  four_long = omega (arith, length-append three l.objects, three_long)

at_offset : (l : Labelling) (kind : Kind) (i k : ℕ) → slice_get (order_of l kind) i ≡ Some k → slice_get (old_places l) (offset l kind + i) ≡ Some k
at_offset l Pno i k h = found_before (four l) l.links _ _ k refl (found_before (three l) l.objects _ _ k refl (found_before (two l) l.faces _ _ k refl (found_before l.nodes l.arcs i (offset l Pno + i) k (omega arith) h)))
at_offset l Par i k h = found_before (four l) l.links _ _ k refl (found_before (three l) l.objects _ _ k refl (found_before (two l) l.faces _ _ k refl (found_behind l.nodes l.arcs i (offset l Par + i) k refl h)))
at_offset l Pfe i k h = found_before (four l) l.links _ _ k refl (found_before (three l) l.objects _ _ k refl (found_behind (two l) l.faces i (offset l Pfe + i) k (omega (arith, two_long l)) h))
at_offset l Fea i k h = found_before (four l) l.links _ _ k refl (found_behind (three l) l.objects i (offset l Fea + i) k (omega (arith, three_long l)) h)
at_offset l Lnk i k h = found_behind (four l) l.links i (offset l Lnk + i) k (omega (arith, four_long l)) h

-- a place in the new order is one in the order of a kind
pub record Located (l : Labelling) (j : ℕ) : Type 0 where
  pub kind : Kind
  pub index : ℕ
  pub is : j ≡ offset l kind + index
  pub within : index < length (order_of l kind)

located : (l : Labelling) (j : ℕ) → j < length (old_places l) → Located l j
located l j h = in_links (split_at (four l) l.links j h)
  where
    in_arcs : (j < length l.nodes) ⊎ ((i : ℕ) × (j ≡ length l.nodes + i) × (i < length l.arcs)) → Located l j
    in_arcs (inl less) = record { kind = Pno; index = j; is = omega arith; within = less }
    in_arcs (inr w) = record { kind = Par; index = w.0; is = w.1; within = w.2 }

    in_faces : (j < length (two l)) ⊎ ((i : ℕ) × (j ≡ length (two l) + i) × (i < length l.faces)) → Located l j
    in_faces (inl less) = in_arcs (split_at l.nodes l.arcs j less)
    in_faces (inr w) = record { kind = Pfe; index = w.0; is = omega (arith, w.1, two_long l); within = w.2 }

    in_objects : (j < length (three l)) ⊎ ((i : ℕ) × (j ≡ length (three l) + i) × (i < length l.objects)) → Located l j
    in_objects (inl less) = in_faces (split_at (two l) l.faces j less)
    in_objects (inr w) = record { kind = Fea; index = w.0; is = omega (arith, w.1, three_long l); within = w.2 }

    in_links : (j < length (four l)) ⊎ ((i : ℕ) × (j ≡ length (four l) + i) × (i < length l.links)) → Located l j
    in_links (inl less) = in_objects (split_at (three l) l.objects j less)
    in_links (inr w) = record { kind = Lnk; index = w.0; is = omega (arith, w.1, four_long l); within = w.2 }

-- the ends of an arranged record

pub numbered_total : (p : PlanData) (number : ℕ → ℕ) → IsTotalOrder (numbered_cmp p number)
numbered_total p number = on_total (numbered p number) end_total

same_origin : (p : PlanData) (number to : ℕ → ℕ) (xs : List PlanEnd) → first_of (map (moved to) (ordered_ends p number xs)) ≡ option_map (moved to) (first_of xs)
same_origin p number to [] = refl
same_origin p number to (x ∷ xs) = refl

same_others : (p : PlanData) (number to : ℕ → ℕ) (xs : List PlanEnd) → IsPermutation (map (moved to) (rest_of xs)) (rest_of (map (moved to) (ordered_ends p number xs)))
same_others p number to [] = IsPermutation-refl []
same_others p number to (x ∷ xs) = IsPermutation-map (moved to) _ _ (IsPermutation-sym _ _ (IsPermutation-sort_by (numbered_cmp p number) (numbered_total p number) xs))

pub backward_arc : (kind : Kind) (b : Bool) → is_arc kind && b ≡ true → kind ≡ Par
backward_arc Pno b h = absurd (true≢false (sym h))
backward_arc Par b h = refl
backward_arc Pfe b h = absurd (true≢false (sym h))
backward_arc Fea b h = absurd (true≢false (sym h))
backward_arc Lnk b h = absurd (true≢false (sym h))

module _ (s : Classes) (p : PlanData) (l : Labelling) (labels : AreLabels s p l) where
  -- each place of the plan is in the new order, at its new place
  pub placed : (k : ℕ) → IsPlace p k → slice_get (old_places l) (new_place l p k) ≡ Some k
  placed k h = at_offset l (record_at p k).kind (number_of l k - 1) k (labels.to_count k h)

  placed_within : (k : ℕ) → IsPlace p k → new_place l p k < length (old_places l)
  placed_within k h = slice_get_within (old_places l) (new_place l p k) k (placed k h)

  pub same_length : length (arranged s l p).list ≡ length (old_places l)
  same_length = length-map (old_places l) (arranged_record s l p)

  comes_from : (j : ℕ) → j < length (old_places l) → (k : ℕ) × IsPlace p k × (new_place l p k ≡ j)
  comes_from j h =
      let w = located l j h in
      let k = get_or (order_of l w.kind) w.index 0 in
      let at = labels.orders w.kind w.index k (slice_get-get_or (order_of l w.kind) w.index 0 w.within) in
      (k, at.0, omega (arith, w.is, ap (offset l) at.1, at.2))

  -- the new places are the places of the arranged plan, each once
  pub new_places : OneToOne (new_place l p) (length p.list) (length (arranged s l p).list)
  new_places = record {
    within = λ i h. omega (arith, placed_within i h, same_length);
    apart = λ i k h g e. let both : Some i ≡ Some k = sym (placed i h) ∙ (ap (slice_get (old_places l)) e ∙ placed k g) in cc;
    onto = λ j h. comes_from j (omega (arith, same_length));
  }

  -- at the new place of a record is what is made of it
  pub record_placed : (k : ℕ) → IsPlace p k → record_at (arranged s l p) (new_place l p k) ≡ arranged_record s l p k
  record_placed k h = get_or-map (arranged_record s l p) (old_places l) (new_place l p k) 0 blank (placed_within k h)
      ∙ ap (arranged_record s l p) (get_or_from_slice_get (old_places l) (new_place l p k) k 0 (placed k h))

  pub carries_record : (k : ℕ) → CarriesRecord s (new_place l p) (turned_at l.turned) k (record_at p k) (arranged_record s l p k)
  carries_record k = record {
    kind = refl;
    attributes = IsPermutation-sym _ _ (IsPermutation-sort_by attribute_cmp attribute_total (record_at p k).attributes);
    extras = refl;
    class = refl;
    points = refl;
    origin = same_origin p (number_of l) (new_place l p) (record_at p k).ends;
    others = same_others p (number_of l) (new_place l p) (record_at p k).ends;
  }

  pub carries_arranged : Carries s (new_place l p) (turned_at l.turned) p (arranged s l p)
  carries_arranged = record {
    places = new_places;
    arcs = λ k h e. backward_arc (record_at p k).kind (not (is_forward (record_at p k).points)) (sym (labels.turned k h) ∙ e);
    cse = refl;
    each = λ k h. subst (CarriesRecord s (new_place l p) (turned_at l.turned) k (record_at p k)) (sym (record_placed k h)) (carries_record k);
  }

  -- what stands at a place of the arranged plan
  pub record From (j : ℕ) : Type 0 where
    pub old : ℕ
    pub there : IsPlace p old
    pub is : new_place l p old ≡ j
    pub made : record_at (arranged s l p) j ≡ arranged_record s l p old

  pub came_from : (j : ℕ) → IsPlace (arranged s l p) j → From j
  came_from j h =
      let from = new_places.onto j h in
      record { old = from.0; there = from.1; is = from.2; made = ap (record_at (arranged s l p)) (sym from.2) ∙ record_placed from.0 from.1 }
