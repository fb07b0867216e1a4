-- The least object that ties is the least that equals an earlier one.
use Rattle.std.proofs.Common.{◌≡◌, ℕ, suc, ◌+◌, add-one, Bool, List, ◌<◌, ◌≤◌, ◌⊎◌, inl, inr, length, get_or, refl, sym, ap, ◌∙◌, subst, arith, Equal}
use Rattle.std.proofs.lemmas.Bool.{cases_order}
use Rattle.std.proofs.lemmas.Cmp.{tied_itself}
use Rattle.std.proofs.lemmas.Map.Lookups.{CmpEqualImpliesEq, exact_unsigned}
use Rattle.edi_line.specs.Refusal.{IsUnbroken, IsLeastBroken}
use Rattle.edi_line.proofs.Truths.{first_tied, then_tied}
use Rattle.edi_record.specs.Orders.{extra_cmp}
use Rattle.edi_record.specs.declared.record.Kind.TheVariants.{Fea}
use Rattle.edi_plan.specs.EarlierLinks.{IsLeast}
use Rattle.edi_plan.specs.Orders.{attribute_cmp}
use Rattle.edi_plan.specs.Places.{places_of}
use Rattle.edi_plan.specs.Plans.{PlanData}
use Rattle.edi_plan.specs.Whole.{IsWholePlan}
use Rattle.edi_plan.proofs.Orders.{exact_lists, attribute_exact, extra_exact}
use Rattle.edi_plan.proofs.PlaceLemmas.{place_there, place_of_kind, places_rise, has_place}
use Rattle.edi_topo.specs.Marks.{AreMarksOf, IsPlaceOfMark}
use Rattle.edi_topo.specs.Ranking.{HasItsKey, Ties}
use Rattle.edi_topo.proofs.LeastPlaces.{least_place, lesser_member}
use Rattle.edi_topo.proofs.MarksPlaced.{marks_at_places}
use Rattle.edi_rank.specs.EqualObjects.{AreEqualObjects, BreaksObjectRule, IsEqualObject}
use Rattle.edi_rank.specs.EqualObjects.BreaksObjectRule.{repeats_object}
use Rattle.edi_rank.specs.Keys.{link_key_cmp, object_key, object_key_cmp}
use Rattle.edi_rank.specs.Laws.{TellsApart}
use Rattle.edi_rank.specs.declared.keys.ObjectKey.{ObjectKey}
use Rattle.edi_rank.proofs.ObjectKeys.{equal_one_key, one_key_equal}
use Rattle.edi_rank.proofs.Orders.{link_key_exact, object_key_total}

pub object_key_exact : CmpEqualImpliesEq object_key_cmp
object_key_exact a b h =
    let h1 = then_tied _ _ h in
    let h2 = then_tied _ _ h1 in
    let c = exact_unsigned a.class b.class (first_tied _ _ h) in
    let t = exact_lists attribute_cmp attribute_exact a.attributes b.attributes (first_tied _ _ h1) in
    let e = exact_lists extra_cmp extra_exact a.extras b.extras (first_tied _ _ h2) in
    let x = exact_lists link_key_cmp link_key_exact a.pieces b.pieces (then_tied _ _ h2) in
    λ i. record { class = c i; attributes = t i; extras = e i; pieces = x i }

module _ (p : PlanData) (whole : IsWholePlan p) (number : ℕ → ℕ) (apart : TellsApart p number) where
  abbrev pub object_place : ℕ → ℕ
  object_place m = get_or (places_of Fea p) m 0

  abbrev pub object_key_of : ℕ → ObjectKey
  object_key_of m = object_key p number (object_place m)

  abbrev pub Tied : ℕ → Type 0
  Tied m = Ties object_key_cmp object_key_of (length (places_of Fea p)) m

  equal_there : (m n : ℕ) → m < length (places_of Fea p) → n < length (places_of Fea p) → object_key_cmp (object_key_of m) (object_key_of n) ≡ Equal → AreEqualObjects p (object_place m) (object_place n)
  equal_there m n h l tie = one_key_equal p number whole apart (object_place m) (object_place n) (place_there Fea p m h) (place_there Fea p n l) (place_of_kind Fea p m h) (place_of_kind Fea p n l)
      (object_key_exact (object_key_of m) (object_key_of n) tie)

  -- an earlier object that is equal to a member's is that of an earlier member with its key
  earlier_member : (j k : ℕ) → j < length (places_of Fea p) → IsEqualObject p (object_place j) k → (i : ℕ) × HasItsKey object_key_cmp object_key_of (length (places_of Fea p)) j i × (object_place i ≡ k)
  earlier_member j k h d =
      let a = has_place Fea p k d.1.first d.1.first_object in
      let keys : object_key_of a.0 ≡ object_key_of j = ap (object_key p number) a.2 ∙ equal_one_key p number k (object_place j) d.1 in
      (a.0, (lesser_member Fea p a.0 j a.1 (omega (arith, a.2, d.0)), subst (λ x. object_key_cmp (object_key_of a.0) x ≡ Equal) keys (tied_itself object_key_total (object_key_of a.0))), a.2)

  -- the member of an object that is equal to an earlier one
  tying_member : (m n : ℕ) → m < n → AreEqualObjects p m n → (i : ℕ) × Tied i × (object_place i ≡ n)
  tying_member m n less d =
      let b = has_place Fea p n d.second d.second_object in
      let a = earlier_member b.0 m b.1 (subst (λ k. IsEqualObject p k m) (sym b.2) (less, d)) in
      (b.0, (b.1, (a.0, a.1.0, a.1.1)), b.2)

  -- the first member with the key of one has the first object that is equal to its object
  pub first_equal_object : (m e : ℕ) → m < length (places_of Fea p) → IsLeast (HasItsKey object_key_cmp object_key_of (length (places_of Fea p)) m) e → IsLeast (IsEqualObject p (object_place m)) (object_place e)
  first_equal_object m e h first = least_place Fea p (HasItsKey object_key_cmp object_key_of (length (places_of Fea p)) m) (IsEqualObject p (object_place m)) (λ i k. omega (arith, k.0, h))
      (λ i k. (places_rise Fea p i m k.0 h, equal_there i m (omega (arith, k.0, h)) h k.1)) (λ k d. earlier_member m k h d) e first

  pub none_equal : ((m : ℕ) → ¬ (Tied m)) → IsUnbroken (BreaksObjectRule p)
  none_equal none rule at (repeats_object {m} {n} e f less d) = let t = tying_member m n less d in none t.0 t.1

  tie_breaks : (m : ℕ) → Tied m → BreaksObjectRule p 501 (suc (object_place m))
  tie_breaks m tie = repeats_object {m = object_place tie.1.0} {n = object_place m} refl refl (places_rise Fea p tie.1.0 m tie.1.1 tie.0) (equal_there tie.1.0 m (omega (arith, tie.0, tie.1.1)) tie.0 tie.1.2)

  -- the places of the members that tie are those of the objects that are equal to an earlier one
  pub marks_break : (marks read by_place : List Bool) (places : List ℕ) (count : ℕ) → read ≡ marks → places ≡ places_of Fea p → count ≡ length p.list
      → AreMarksOf (length (places_of Fea p)) Tied marks → AreMarksOf count (IsPlaceOfMark places read) by_place → AreMarksOf (length p.list) (λ k. BreaksObjectRule p 501 (k + 1)) by_place
  marks_break marks read by_place places count e f g tied placed = marks_at_places Fea p Tied (λ k. BreaksObjectRule p 501 (k + 1)) (λ m t. t.0) (λ m t. subst (BreaksObjectRule p 501) (sym (add-one (object_place m))) (tie_breaks m t))
      (λ k b. member k (k + 1) refl b) marks read by_place places (length (places_of Fea p)) count e f g tied placed
    where
      member : (k at : ℕ) → at ≡ k + 1 → BreaksObjectRule p 501 at → (i : ℕ) × Tied i × (object_place i ≡ k)
      member k at is (repeats_object {m} {n} e f less d) =
          let t = tying_member m n less d in
          (t.0, t.1, t.2 ∙ omega (arith, is, f))

  pub least_equal_object : (m : ℕ) → Tied m → ((n : ℕ) → Tied n → m ≤ n) → IsLeastBroken (BreaksObjectRule p) 501 (suc (object_place m))
  least_equal_object m tie least = record {
    is = tie_breaks m tie;
    least = later;
  }
    where
      behind : (j : ℕ) → j < length (places_of Fea p) → m ≤ j → (m ≡ j) ⊎ ((m < j) ⊎ (j < m)) → object_place m ≤ object_place j
      behind j h le (inl same) = omega (arith, ap object_place same)
      behind j h le (inr (inl less)) = omega (arith, places_rise Fea p m j less h)
      behind j h le (inr (inr more)) = absurd (omega (arith, le, more))

      later : (r q : ℕ) → BreaksObjectRule p r q → (suc (object_place m) < q) ⊎ ((suc (object_place m) ≡ q) × (501 ≤ r))
      later r q (repeats_object {m = i} {n = n} e f less d) =
          let t = tying_member i n less d in
          let le = behind t.0 t.1.0 (least t.0 t.1) (cases_order m t.0) in
          order (cases_order (suc (object_place m)) q) (omega (arith, le, f, t.2)) (omega (arith, e))
        where
          order : (suc (object_place m) ≡ q) ⊎ ((suc (object_place m) < q) ⊎ (q < suc (object_place m))) → suc (object_place m) ≤ q → 501 ≤ r → (suc (object_place m) < q) ⊎ ((suc (object_place m) ≡ q) × (501 ≤ r))
          order (inl same) le rule = inr (same, rule)
          order (inr (inl more)) le rule = inl more
          order (inr (inr fewer)) le rule = absurd (omega (arith, le, fewer))
