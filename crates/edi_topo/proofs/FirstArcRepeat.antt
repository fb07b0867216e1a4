-- The least member of a layer of arcs that ties is the least arc with the points of an earlier one.
use Rattle.std.proofs.Common.{◌≡◌, ℕ, ◌<◌, ◌≤◌, ◌⊎◌, inl, inr, Bool, true, false, not, cond, List, [], reverse, length, get_or, refl, sym, ap, ◌∙◌, subst, arith, Ordering, Less, Equal, Greater}
use Rattle.std.specs.Ordering.{is_lt, ordering_reverse}
use Rattle.std.proofs.lemmas.List.{get_or-map, reverse-reverse}
use Rattle.std.proofs.lemmas.Bool.{cases_order}
use Rattle.std.proofs.lemmas.Cmp.{tied_itself}
use Rattle.edi_record.specs.Orders.{point_cmp, points_cmp}
use Rattle.edi_record.specs.declared.record.Kind.TheVariants.{Par}
use Rattle.edi_record.specs.declared.record.Point.{Point}
use Rattle.edi_plan.specs.EarlierLinks.{IsLeast}
use Rattle.edi_plan.specs.Places.{places_of}
use Rattle.edi_plan.specs.Plans.{PlanData, record_at}
use Rattle.edi_plan.proofs.Orders.{exact_lists, point_exact, points_total}
use Rattle.edi_plan.proofs.PlaceLemmas.{place_there, place_of_kind, places_rise, has_place}
use Rattle.edi_topo.specs.Arcs.{forward_keys}
use Rattle.edi_topo.specs.EarlierRecords.{SharesPoints}
use Rattle.edi_topo.specs.Marks.{AreMarksOf, IsPlaceOfMark}
use Rattle.edi_topo.specs.inner.Arcs.{RepeatsAnEarlierArc}
use Rattle.edi_topo.specs.Directions.{is_forward, forward}
use Rattle.edi_topo.specs.Ranking.{HasItsKey, Ties}
use Rattle.edi_topo.proofs.LeastPlaces.{least_place, lesser_member}
use Rattle.edi_topo.proofs.MarksPlaced.{marks_at_places}

abbrev pub count_of : PlanData → ℕ
count_of p = length (places_of Par p)

abbrev pub key_of : PlanData → ℕ → List Point
key_of p m = get_or (forward_keys p) m []

-- ---- the forward direction of points and of their reverse is one

-- points with one forward direction are equal in one of the two
pub in_one_direction : (xs ys : List Point) → forward xs ≡ forward ys → (ys ≡ xs) ⊎ (ys ≡ reverse xs)
in_one_direction xs ys e = go (is_forward xs) (is_forward ys) e
  where
    go : (t u : Bool) → cond (not t) (reverse xs) xs ≡ cond (not u) (reverse ys) ys → (ys ≡ xs) ⊎ (ys ≡ reverse xs)
    go true true e = inl (sym e)
    go true false e = inr (sym (reverse-reverse ys) ∙ ap reverse (sym e))
    go false true e = inr (sym e)
    go false false e = inl (sym (reverse-reverse ys) ∙ (ap reverse (sym e) ∙ reverse-reverse xs))

abbrev directed_by : Ordering → List Point → List Point
directed_by o xs = cond (not (is_lt o)) (reverse xs) xs

-- points and their reverse have one forward direction
forward_reverse : (xs : List Point) → forward (reverse xs) ≡ forward xs
forward_reverse xs = go (points_cmp xs (reverse xs)) refl
  where
    back : points_cmp (reverse xs) (reverse (reverse xs)) ≡ points_cmp (reverse xs) xs
    back = ap (points_cmp (reverse xs)) (reverse-reverse xs)

    turned : (o : Ordering) → points_cmp xs (reverse xs) ≡ o → points_cmp (reverse xs) (reverse (reverse xs)) ≡ ordering_reverse o
    turned o e = back ∙ (points_total.antisymm (reverse xs) xs ∙ ap ordering_reverse e)

    go : (o : Ordering) → points_cmp xs (reverse xs) ≡ o → forward (reverse xs) ≡ forward xs
    go Less e = ap (λ p. directed_by p (reverse xs)) (turned Less e) ∙ (reverse-reverse xs ∙ sym (ap (λ p. directed_by p xs) e))
    go Equal e = ap forward (sym (exact_lists point_cmp point_exact xs (reverse xs) e))
    go Greater e = ap (λ p. directed_by p (reverse xs)) (turned Greater e) ∙ sym (ap (λ p. directed_by p xs) e)

pub one_direction : (xs ys : List Point) → (ys ≡ xs) ⊎ (ys ≡ reverse xs) → forward xs ≡ forward ys
one_direction xs ys (inl e) = ap forward (sym e)
one_direction xs ys (inr e) = sym (ap forward e ∙ forward_reverse xs)

module _ (p : PlanData) where
  abbrev pub place : ℕ → ℕ
  place m = get_or (places_of Par p) m 0

  abbrev points_at : ℕ → List Point
  points_at k = (record_at p k).points

  pub key_is : (m : ℕ) → m < count_of p → key_of p m ≡ forward (points_at (place m))
  key_is m h = get_or-map (λ k. forward (points_at k)) (places_of Par p) m 0 [] h

  shares_there : (m n : ℕ) → m < n → n < count_of p → points_cmp (key_of p m) (key_of p n) ≡ Equal → SharesPoints p (place n) (place m)
  shares_there m n less h tie =
      let early : m < count_of p = omega (arith, less, h) in
      let keys : forward (points_at (place m)) ≡ forward (points_at (place n)) =
      sym (key_is m early) ∙ (exact_lists point_cmp point_exact (key_of p m) (key_of p n) tie ∙ key_is n h) in (
        points_at (place m),
        points_at (place n),
        places_rise Par p m n less h,
        (place_there Par p m early, place_of_kind Par p m early, refl),
        (place_there Par p n h, place_of_kind Par p n h, refl),
        in_one_direction (points_at (place m)) (points_at (place n)) keys,
      )

  -- an earlier arc with the points of a member's is that of an earlier member with its key
  earlier_member : (j k : ℕ) → j < count_of p → SharesPoints p (place j) k → (i : ℕ) × HasItsKey points_cmp (key_of p) (count_of p) j i × (place i ≡ k)
  earlier_member j k h d =
      let a = has_place Par p k d.3.0 d.3.1 in
      let keys : key_of p a.0 ≡ key_of p j =
      key_is a.0 a.1 ∙ (ap (λ k. forward (points_at k)) a.2 ∙ (ap forward d.3.2 ∙ (one_direction d.0 d.1 d.5 ∙ (sym (ap forward d.4.2) ∙ sym (key_is j h))))) in
      (a.0, (lesser_member Par p a.0 j a.1 (omega (arith, a.2, d.2)), ap (points_cmp (key_of p a.0)) (sym keys) ∙ tied_itself points_total (key_of p a.0)), a.2)

  -- the member of an arc with the points of an earlier one
  tying_member : (n : ℕ) → RepeatsAnEarlierArc p n → (m : ℕ) × Ties points_cmp (key_of p) (count_of p) m × (place m ≡ n)
  tying_member n d =
      let b = has_place Par p n d.5.0 d.5.1 in
      let a = earlier_member b.0 d.0 b.1 (subst (λ k. SharesPoints p k d.0) (sym b.2) (d.1, d.2, d.3, d.4, d.5, d.6)) in
      (b.0, (b.1, (a.0, a.1.0, a.1.1)), b.2)

  -- the first member with the key of one has the first arc with the points of its arc
  pub first_sharing : (m e : ℕ) → m < count_of p → IsLeast (HasItsKey points_cmp (key_of p) (count_of p) m) e → IsLeast (SharesPoints p (place m)) (place e)
  first_sharing m e h first = least_place Par p (HasItsKey points_cmp (key_of p) (count_of p) m) (SharesPoints p (place m)) (λ i k. omega (arith, k.0, h))
      (λ i k. shares_there i m k.0 h k.1) (λ k d. earlier_member m k h d) e first

  pub none_repeats : ((m : ℕ) → ¬ (Ties points_cmp (key_of p) (count_of p) m)) → (n : ℕ) → ¬ (RepeatsAnEarlierArc p n)
  none_repeats none n d = let t = tying_member n d in none t.0 t.1

  pub tie_repeats : (m : ℕ) → Ties points_cmp (key_of p) (count_of p) m → RepeatsAnEarlierArc p (place m)
  tie_repeats m tie = let s = shares_there tie.1.0 m tie.1.1 tie.0 tie.1.2 in (place tie.1.0, s.0, s.1, s.2, s.3, s.4, s.5)

  -- the places of the members that tie are those of the arcs with the points of an earlier one
  pub marks_repeat : (q : PlanData) → q ≡ p → (marks read by_place : List Bool) (places : List ℕ) (count : ℕ) → read ≡ marks → places ≡ places_of Par p → count ≡ length p.list
      → AreMarksOf (count_of q) (Ties points_cmp (key_of q) (count_of q)) marks → AreMarksOf count (IsPlaceOfMark places read) by_place → AreMarksOf (length p.list) (RepeatsAnEarlierArc p) by_place
  marks_repeat q same marks read by_place places count e f g tied placed = marks_at_places Par p (Ties points_cmp (key_of p) (count_of p)) (RepeatsAnEarlierArc p) (λ m t. t.0) tie_repeats tying_member
      marks read by_place places (count_of p) count e f g (subst (λ r. AreMarksOf (count_of r) (Ties points_cmp (key_of r) (count_of r)) marks) same tied) placed

  pub least_repeats : (m : ℕ) → Ties points_cmp (key_of p) (count_of p) m → ((n : ℕ) → Ties points_cmp (key_of p) (count_of p) n → m ≤ n)
      → RepeatsAnEarlierArc p (place m) × ((k : ℕ) → RepeatsAnEarlierArc p k → place m ≤ k)
  least_repeats m tie least = (
    tie_repeats m tie,
    λ k d. let t = tying_member k d in behind t.0 t.1.0 k t.2 (least t.0 t.1) (cases_order m t.0),
  )
    where
      behind : (j : ℕ) → j < count_of p → (k : ℕ) → place j ≡ k → m ≤ j → (m ≡ j) ⊎ ((m < j) ⊎ (j < m)) → place m ≤ k
      behind j h k e le (inl same) = omega (arith, ap place same, e)
      behind j h k e le (inr (inl less)) = omega (arith, places_rise Par p m j less h, e)
      behind j h k e le (inr (inr more)) = absurd (omega arith)
