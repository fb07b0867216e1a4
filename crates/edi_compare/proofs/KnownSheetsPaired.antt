-- Known plans of an arc between two nodes: the pairing of two, and why two are not the same.
use Rattle.std.proofs.Common.{◌≡◌, ◌∙◌, sym, subst, ap, refl, ℕ, ◌<◌, Bool, true, false, ◌||◌, List, [], ◌∷◌, map, option_map, unwrap_or, lit≤, reverse, true≢false, cond, eqb-true}
use Rattle.std.specs.List.{list_any}
use Rattle.std.proofs.lemmas.Bool.{ltb-true}
use Rattle.std.specs.Prelude.{slice_index, nat_eq, nat_lt, IsPermutation}
use Rattle.std.proofs.lemmas.List.Sorted.{IsPermutation-refl, list_any-IsPermutation}
use Rattle.edi_record.specs.declared.record.Kind.{Kind}
use Rattle.edi_record.specs.declared.record.Kind.TheVariants.{Par, Pfe, Fea}
use Rattle.edi_schema.specs.Classes.{Classes, partner_of}
use Rattle.edi_plan.specs.Plans.{PlanData, record_at, same_kind, first_of, rest_of, origin_of, others_of}
use Rattle.edi_plan.specs.declared.record.PlanEnd.{PlanEnd}
use Rattle.edi_plan.specs.declared.record.PlanRecord.{PlanRecord}
use Rattle.edi_rank.specs.Labelling.{turned_at}
use Rattle.edi_rank.specs.Same.{OneToOne, Carries, CarriesRecord, Same, moved, class_after, directed}
use Rattle.edi_rank.specs.Turned.{role_after}
use Rattle.edi_compare.specs.Known.{arc_classes, turned_arc_plan, reversed_arc_plan, exchanged_plan, arc_pairing}
use Rattle.edi_compare.specs.Pairings.{PairingCarries}
use Rattle.edi_compare.proofs.KnownSheetsTests.{below, true_below, only_one, points_differ}

-- ---- what is carried

-- the record renamed, after the reversals
abbrev carried : Classes → (ℕ → ℕ) → (ℕ → Bool) → ℕ → PlanRecord → PlanRecord
carried s to turned i r = record {
  kind = r.kind;
  class = class_after (partner_of s) turned r;
  role = role_after turned r;
  points = directed (turned i) r.points;
  attributes = r.attributes;
  extras = r.extras;
  ends = map (moved to) r.ends;
}

carries_as : (s : Classes) (to : ℕ → ℕ) (turned : ℕ → Bool) (i : ℕ) (a b : PlanRecord) → b ≡ carried s to turned i a → CarriesRecord s to turned i a b
carries_as s to turned i a b e = record {
  kind = ap (λ (r : PlanRecord). r.kind) e;
  attributes = subst (λ (xs : List _). IsPermutation a.attributes xs) (sym (ap (λ (r : PlanRecord). r.attributes) e)) (IsPermutation-refl a.attributes);
  extras = ap (λ (r : PlanRecord). r.extras) e;
  class = ap (λ (r : PlanRecord). r.class) e;
  points = ap (λ (r : PlanRecord). r.points) e;
  origin = ap origin_of e ∙ first_moved a.ends;
  others = subst (λ xs. IsPermutation (map (moved to) (others_of a)) xs) (sym (ap others_of e ∙ rest_moved a.ends)) (IsPermutation-refl _);
}
  where
    first_moved : (ends : List PlanEnd) → first_of (map (moved to) ends) ≡ option_map (moved to) (first_of ends)
    first_moved [] = refl
    first_moved (x ∷ xs) = refl

    rest_moved : (ends : List PlanEnd) → rest_of (map (moved to) ends) ≡ map (moved to) (rest_of ends)
    rest_moved [] = refl
    rest_moved (x ∷ xs) = refl

abbrev to : ℕ → ℕ
to place = slice_index arc_pairing.to place

abbrev turned : ℕ → Bool
turned place = turned_at arc_pairing.turned place

-- where a record of the second plan comes from
abbrev from : ℕ → ℕ
from place = slice_index (11 ∷ 10 ∷ 5 ∷ 9 ∷ 8 ∷ 7 ∷ 6 ∷ 3 ∷ 4 ∷ 2 ∷ 1 ∷ 0 ∷ []) place

to_within : (i : ℕ) → i < 12 → to i < 12
to_within i h = ltb-true (to i) 12 (true_below 12 (λ k. nat_lt (to k) 12) refl i h)

from_within : (i : ℕ) → i < 12 → from i < 12
from_within i h = ltb-true (from i) 12 (true_below 12 (λ k. nat_lt (from k) 12) refl i h)

from-to : (i : ℕ) → i < 12 → from (to i) ≡ i
from-to i h = eqb-true (from (to i)) i (true_below 12 (λ k. nat_eq (from (to k)) k) refl i h)

to-from : (i : ℕ) → i < 12 → to (from i) ≡ i
to-from i h = eqb-true (to (from i)) i (true_below 12 (λ k. nat_eq (to (from k)) k) refl i h)

places_paired : OneToOne to 12 12
places_paired = record {
  within = to_within;
  apart = λ i k h g e. sym (from-to i h) ∙ (ap from e ∙ from-to k g);
  onto = λ j h. (from j, from_within j h, to-from j h);
}

arcs_turned : (i : ℕ) → i < 12 → turned i ≡ true → (record_at turned_arc_plan i).kind ≡ Par
arcs_turned i h is = subst (λ k. (record_at turned_arc_plan k).kind ≡ Par) (sym (only_one 12 turned 2 refl i h is)) refl

each_carried : (i : ℕ) → i < 12 → record_at reversed_arc_plan (to i) ≡ carried arc_classes to turned i (record_at turned_arc_plan i)
each_carried = below 12 (λ i. record_at reversed_arc_plan (to i) ≡ carried arc_classes to turned i (record_at turned_arc_plan i))
    (refl, (refl, (refl, (refl, (refl, (refl, (refl, (refl, (refl, (refl, (refl, (refl, tt))))))))))))

pub arc_carries : Carries arc_classes to turned turned_arc_plan reversed_arc_plan
arc_carries = record {
  places = places_paired;
  arcs = arcs_turned;
  cse = refl;
  each = λ i h. carries_as arc_classes to turned i (record_at turned_arc_plan i) (record_at reversed_arc_plan (to i)) (each_carried i h);
}

pub arc_paired : PairingCarries arc_classes turned_arc_plan reversed_arc_plan arc_pairing
arc_paired = record { all_paired = refl; all_directed = refl; carries = arc_carries }

-- ---- with the sides exchanged

module _ (to : ℕ → ℕ) (turned : ℕ → Bool) (c : Carries arc_classes to turned turned_arc_plan exchanged_plan) where
  abbrev p : PlanData
  p = turned_arc_plan

  abbrev q : PlanData
  q = exchanged_plan

  kind_of : (kind : Kind) (i : ℕ) → i < 12 → (record_at p i).kind ≡ kind → same_kind (record_at q (to i)).kind kind ≡ same_kind kind kind
  kind_of kind i h is = ap (λ k. same_kind k kind) ((c.each i h).kind ∙ is)

  -- the arc goes to the arc, and the object to the object
  arc_to : to 2 ≡ 2
  arc_to = only_one 12 (λ j. same_kind (record_at q j).kind Par) 2 refl (to 2) (c.places.within 2 (lit≤ tt)) (kind_of Par 2 (lit≤ tt) refl)

  object_to : to 5 ≡ 5
  object_to = only_one 12 (λ j. same_kind (record_at q j).kind Fea) 5 refl (to 5) (c.places.within 5 (lit≤ tt)) (kind_of Fea 5 (lit≤ tt) refl)

  -- the link from the object goes to the link from it
  abbrev origin_at : ℕ → ℕ
  origin_at j = unwrap_or (option_map (λ (e : PlanEnd). e.target) (origin_of (record_at q j))) 12

  piece_to : to 10 ≡ 10
  piece_to = only_one 12 (λ j. nat_eq (origin_at j) 5) 10 refl (to 10) (c.places.within 10 (lit≤ tt))
      (ap (λ o. nat_eq (unwrap_or (option_map (λ (e : PlanEnd). e.target) o) 12) 5) (c.each 10 (lit≤ tt)).origin ∙ ap (λ k. nat_eq k 5) object_to)

  abbrev is_f : PlanEnd → Bool
  is_f e = nat_eq e.target 3

  -- so the face that is its piece goes to that one
  face_to : nat_eq (to 3) 3 || false ≡ true
  face_to = list_any-IsPermutation is_f _ _ (c.each 10 (lit≤ tt)).others ∙ ap (λ j. list_any is_f (others_of (record_at q j))) piece_to

  -- no record is reversed that an end of the link to it names
  still : turned 2 ≡ false
  still = go (turned 2) (sym (ap (λ j. (record_at q j).points) arc_to) ∙ (c.each 2 (lit≤ tt)).points)
    where
      go : (b : Bool) → (record_at q 2).points ≡ directed b (record_at p 2).points → b ≡ false
      go false e = refl
      go true e = absurd (points_differ (reverse (record_at p 2).points) (record_at p 2).points refl refl (sym e))

  face_still : turned 3 ≡ false
  face_still = go (turned 3) (c.arcs 3 (lit≤ tt))
    where
      go : (b : Bool) → (b ≡ true → Pfe ≡ Par) → b ≡ false
      go false h = refl
      go true h = absurd (let e = h refl in cc)

  -- its link on the left goes to the only one on the left, which is to the other face
  left_class : (record_at q (to 8)).class ≡ 6
  left_class = (c.each 8 (lit≤ tt)).class ∙ (ap (λ b. cond (b || (turned 3 || false)) (partner_of arc_classes 6) 6) still ∙ ap (λ b. cond (b || false) (partner_of arc_classes 6) 6) face_still)

  left_to : to 8 ≡ 9
  left_to = only_one 12 (λ j. nat_eq (record_at q j).class 6) 9 refl (to 8) (c.places.within 8 (lit≤ tt)) (ap (λ k. nat_eq k 6) left_class)

  pub sides_differ : ⊥
  sides_differ = true≢false (sym face_to ∙ (list_any-IsPermutation is_f _ _ (c.each 8 (lit≤ tt)).others ∙ ap (λ j. list_any is_f (others_of (record_at q j))) left_to))

pub not_exchanged : ¬ (Same arc_classes turned_arc_plan exchanged_plan)
not_exchanged same = sides_differ same.0 same.1 same.2
