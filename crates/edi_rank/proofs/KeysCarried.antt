-- What carries one plan onto another keeps the keys, where it preserves the numbers of the layers below.
use Rattle.std.proofs.Common.{◌≡◌, ℕ, suc, ◌<◌, ◌⊎◌, inl, inr, Bool, true, false, true≢false, not, ◌&&◌, List, [], map, reverse, length, refl, sym, ap, ap₂, ◌∙◌, subst, arith}
use Rattle.std.specs.List.{AllByRecursion}
use Rattle.std.proofs.Math.Bool.{not-not}
use Rattle.edi_line.proofs.EachElement.{each_weaker, each_from_places}
use Rattle.edi_record.specs.declared.record.Kind.{Kind}
use Rattle.edi_record.specs.declared.record.Kind.TheVariants.{Pno, Par, Pfe, Fea, Lnk}
use Rattle.edi_record.specs.declared.record.Point.{Point}
use Rattle.edi_schema.specs.Classes.{Classes}
use Rattle.edi_schema.specs.Roles.{is_plain}
use Rattle.edi_schema.specs.declared.role.Role.{Role}
use Rattle.edi_schema.proofs.RoleTests.{exchanged_back}
use Rattle.edi_plan.specs.Joined.{IsJoined}
use Rattle.edi_plan.specs.Places.{places_of}
use Rattle.edi_plan.specs.Plans.{PlanData, IsPlace, record_at, kind_rank, is_arc, is_object, first_of}
use Rattle.edi_plan.specs.Whole.{IsWholePlan}
use Rattle.edi_plan.proofs.PlaceLemmas.{place_there, place_of_kind}
use Rattle.edi_plan.specs.declared.record.PlanRecord.{PlanRecord}
use Rattle.edi_plan.specs.declared.record.PlanEnd.{PlanEnd}
use Rattle.edi_topo.specs.Directions.{forward}
use Rattle.edi_topo.specs.TopologyRules.BreaksTopologyRule.{equals_reverse}
use Rattle.edi_topo.proofs.FirstArcRepeat.{one_direction}
use Rattle.edi_rank.specs.KeyLaws.{IsNowhereBroken, IsPreserved}
use Rattle.edi_rank.specs.Keys.{least_side, object_key}
use Rattle.edi_rank.specs.Laws.{IsPlanUnder}
use Rattle.edi_rank.specs.Layers.{forward_plan}
use Rattle.edi_rank.specs.Same.{OneToOne, has_turned_arc, directed, Carries}
use Rattle.edi_rank.specs.Turned.{is_forward, is_backward, role_after, turned_record}
use Rattle.edi_rank.proofs.Arranging.{backward_arc}
use Rattle.edi_rank.proofs.Preserved.{role_turned, plain_turned, plain_stays, role_carried}
use Rattle.edi_rank.proofs.KeysPreserved.{Kept, kept_from, face_key_preserved, object_key_preserved}
use Rattle.edi_rank.proofs.ObjectsPreserved.{class_kept, piece_class}
use Rattle.edi_rank.proofs.SameLaws.{carries_itself, differ, map_alike, passes_alike, any_differ, tested_before}
use Rattle.edi_rank.proofs.Sided.{arc_is}
use Rattle.edi_rank.proofs.TurnedRecords.{record_turned, turned_long, reverse_forward}

-- arcs

pub arc_carried : (s : Classes) (p q : PlanData) (to : ℕ → ℕ) (turned : ℕ → Bool) → Carries s to turned p q → IsPreserved p Par to (λ a. forward (record_at p a).points) (λ a. forward (record_at q a).points)
arc_carried s p q to turned c i h is = sym (one_direction (record_at p i).points (record_at q (to i)).points (either (turned i) (record_at p i).points (record_at q (to i)).points (c.each i h).points))
  where
    either : (t : Bool) (xs ys : List Point) → ys ≡ directed t xs → (ys ≡ xs) ⊎ (ys ≡ reverse xs)
    either true xs ys e = inr e
    either false xs ys e = inl e

-- faces

role_twice : (t u : Bool) (r : Role) → role_turned u (role_turned t r) ≡ role_turned (differ t u) r
role_twice true true r = exchanged_back r
role_twice true false r = refl
role_twice false u r = refl

module _ (s : Classes) (p q : PlanData) (under : IsPlanUnder s p) (under' : IsPlanUnder s q) (none : IsNowhereBroken p 404) (to : ℕ → ℕ) (turned : ℕ → Bool) (c : Carries s to turned p q) where
  -- what isn't forward in the one plan and what isn't in the other differ by what is turned
  backward_carried : (i : ℕ) → IsPlace p i → is_backward p i ≡ differ (turned i) (is_backward q (to i))
  backward_carried i h = go (turned i) (is_arc (record_at p i).kind) refl refl ∙ ap (differ (turned i)) (sym there)
    where
      points : List Point
      points = (record_at p i).points

      there : is_backward q (to i) ≡ is_arc (record_at p i).kind && not (is_forward (directed (turned i) points))
      there = ap₂ (λ kind xs. is_arc kind && not (is_forward xs)) (c.each i h).kind (c.each i h).points

      go : (t b : Bool) → turned i ≡ t → is_arc (record_at p i).kind ≡ b → b && not (is_forward points) ≡ differ t (b && not (is_forward (directed t points)))
      go false b e f = refl
      go true false e f = absurd (true≢false (sym (ap is_arc (c.arcs i h e)) ∙ f))
      go true true e f =
          sym (ap (λ b. not (not b)) (reverse_forward points (λ same. none (suc i) (equals_reverse refl (i, points, refl, (h, c.arcs i h e, refl), same)))) ∙ not-not (not (is_forward points)))

  -- so a link has the same role in both, once each arc is turned forward
  role_forward : (i : ℕ) → IsPlace p i → role_after (is_backward q) (record_at q (to i)) ≡ role_after (is_backward p) (record_at p i)
  role_forward i h = ap₂ role_turned (tested_before s to turned i a b (c.each i h) (is_backward q)) (role_carried s p q under under' to turned c i h) ∙ go (is_plain a.role) refl
    where
      a : PlanRecord
      a = record_at p i

      b : PlanRecord
      b = record_at q (to i)

      t : Bool
      t = has_turned_arc turned a

      u : Bool
      u = has_turned_arc (λ j. is_backward q (to j)) a

      only_arcs : (e : PlanEnd) → IsPlace p e.target → is_backward q (to e.target) ≡ true → is_arc (record_at p e.target).kind ≡ true
      only_arcs e l back = ap is_arc (sym (c.each e.target l).kind ∙ backward_arc (record_at q (to e.target)).kind (not (is_forward (record_at q (to e.target)).points)) back)

      both : is_plain a.role ≡ false → has_turned_arc (is_backward p) a ≡ differ t u
      both plain = passes_alike (λ (e : PlanEnd). IsPlace p e.target) (λ e. is_backward p e.target) (λ e. differ (turned e.target) (is_backward q (to e.target))) (λ e l. backward_carried e.target l) a.ends (under.whole.there i h)
          ∙ any_differ (λ (e : PlanEnd). IsPlace p e.target) (λ e. is_arc (record_at p e.target).kind) (λ e. turned e.target) (λ e. is_backward q (to e.target))
          (λ e l is. ap is_arc (c.arcs e.target l is)) only_arcs a.ends (under.whole.there i h) (under.whole.one_arc i h plain)

      go : (plain : Bool) → is_plain a.role ≡ plain → role_turned u (role_turned t a.role) ≡ role_turned (has_turned_arc (is_backward p) a) a.role
      go true e = plain_stays u (role_turned t a.role) (plain_turned t a.role ∙ e) ∙ (plain_stays t a.role e ∙ sym (plain_stays (has_turned_arc (is_backward p) a) a.role e))
      go false e = role_twice t u a.role ∙ ap (λ t. role_turned t a.role) (sym (both e))

  long : (r : PlanData) → length (forward_plan r).list ≡ length r.list
  long r = turned_long (λ c. c) (is_backward r) 0 r.list

  before : (i : ℕ) → IsPlace (forward_plan p) i → IsPlace p i
  before i h = omega (arith, h, long p)

  after : (r : PlanData) (i : ℕ) → IsPlace r i → record_at (forward_plan r) i ≡ turned_record (λ c. c) (is_backward r) i (record_at r i)
  after r i h = record_turned (λ c. c) (is_backward r) r i h

  ends_there : (i : ℕ) → IsPlace (forward_plan p) i → AllByRecursion (λ e. IsPlace (forward_plan p) e.target) (record_at (forward_plan p) i).ends
  ends_there i h = subst (λ (r : PlanRecord). AllByRecursion (λ e. IsPlace (forward_plan p) e.target) r.ends) (sym (after p i (before i h)))
      (each_weaker (λ e. IsPlace p e.target) (λ e. IsPlace (forward_plan p) e.target) (λ e t. omega (arith, t, long p)) (record_at p i).ends (under.whole.there i (before i h)))

  places : OneToOne to (length (forward_plan p).list) (length (forward_plan q).list)
  places = subst (λ n. OneToOne to n (length (forward_plan q).list)) (sym (long p)) (subst (OneToOne to (length p.list)) (sym (long q)) c.places)

  kept_forward : (i : ℕ) → IsPlace p i → Kept to (turned_record (λ c. c) (is_backward p) i (record_at p i)) (turned_record (λ c. c) (is_backward q) (to i) (record_at q (to i)))
  kept_forward i h =
      let k = kept_from s to turned i (record_at p i) (record_at q (to i)) (c.each i h) in
      record { kind = k.kind; attributes = k.attributes; extras = k.extras; origin = k.origin; others = k.others; ends = k.ends }

  kept : (i : ℕ) → IsPlace (forward_plan p) i → Kept to (record_at (forward_plan p) i) (record_at (forward_plan q) (to i))
  kept i l =
      let h = before i l in
      subst (λ r. Kept to r (record_at (forward_plan q) (to i))) (sym (after p i h))
      (subst (Kept to (turned_record (λ c. c) (is_backward p) i (record_at p i))) (sym (after q (to i) (c.places.within i h))) (kept_forward i h))

  roles : (i : ℕ) → IsPlace (forward_plan p) i → (record_at (forward_plan q) (to i)).role ≡ (record_at (forward_plan p) i).role
  roles i l =
      let h = before i l in
      ap (λ (r : PlanRecord). r.role) (after q (to i) (c.places.within i h)) ∙ (role_forward i h ∙ sym (ap (λ (r : PlanRecord). r.role) (after p i h)))

  pub face_carried : (number number' : ℕ → ℕ) → IsPreserved p Par to number number' → IsPreserved p Pfe to (least_side (forward_plan p) number) (least_side (forward_plan q) number')
  face_carried number number' numbers x h is =
      ap first_of (face_key_preserved (forward_plan p) (forward_plan q) ends_there to places kept number number' roles
      (λ t l arc. numbers t (before t l) (arc_is (record_at p t).kind (sym (ap (λ (r : PlanRecord). is_arc r.kind) (after p t (before t l))) ∙ arc))) x (omega (arith, h, long p)))

-- objects

pub object_carried : (s : Classes) (p q : PlanData) → IsWholePlan p → IsJoined p → (to : ℕ → ℕ) (turned : ℕ → Bool) → Carries s to turned p q
    → (number number' : ℕ → ℕ) → IsPreserved p Pno to number number' → IsPreserved p Par to number number' → IsPreserved p Pfe to number number' → IsPreserved p Fea to (object_key p number) (object_key q number')
object_carried s p q whole joined to turned c number number' nodes arcs faces m h is =
    object_key_preserved p q whole to c.places (λ i l. kept_from s to turned i (record_at p i) (record_at q (to i)) (c.each i l)) number number' (λ t l. below t l (record_at p t).kind refl) m h (ap is_object is)
    (class_kept s p q whole joined to turned c m h is) (λ i l piece. piece_class s p q whole joined to turned c m i l is piece)
  where
    below : (t : ℕ) → IsPlace p t → (kind : Kind) → (record_at p t).kind ≡ kind → kind_rank kind < 3 → number' (to t) ≡ number t
    below t l Pno e less = nodes t l e
    below t l Par e less = arcs t l e
    below t l Pfe e less = faces t l e
    below t l Fea e less = absurd (omega (arith, less))
    below t l Lnk e less = absurd (omega (arith, less))

-- the keys of the objects are one where the numbers of the records are one
pub object_keys_alike : (p : PlanData) → IsWholePlan p → IsJoined p → (number number' : ℕ → ℕ) → ((k : ℕ) → IsPlace p k → number' k ≡ number k) → map (object_key p number') (places_of Fea p) ≡ map (object_key p number) (places_of Fea p)
object_keys_alike p whole joined number number' same =
    map_alike (λ k. IsPlace p k × ((record_at p k).kind ≡ Fea)) (object_key p number') (object_key p number)
    (λ k h. object_carried [] p p whole joined (λ i. i) (λ _. false) (carries_itself [] p) number number' (λ i l _. same i l) (λ i l _. same i l) (λ i l _. same i l) k h.0 h.1)
    (places_of Fea p) (each_from_places (λ k. IsPlace p k × ((record_at p k).kind ≡ Fea)) (places_of Fea p) 0 (λ m h. (place_there Fea p m h, place_of_kind Fea p m h)))
