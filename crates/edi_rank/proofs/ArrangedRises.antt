-- The plan that labels make of a plan stands in order, whatever its records, where no arc equals its reverse.
use Rattle.std.proofs.Common.{◌≡◌, ℕ, suc, ◌-◌, ◌≤◌, Bool, true, false, ◌&&◌, not, List, [], ◌∷◌, map, reverse, length, refl, sym, ap, ap₂, ◌∙◌, subst, arith, IsPermutation, count_by, Less, is_gt}
use Rattle.std.specs.List.{AllByRecursion}
use Rattle.std.specs.Option.{option_cmp}
use Rattle.std.proofs.lemmas.List.Sorted.{IsPermutation-sym}
use Rattle.edi_line.specs.Refusal.{IsUnbroken}
use Rattle.edi_line.proofs.EachElement.{each_in_any_order, each_weaker}
use Rattle.edi_record.specs.Shapes.{may_have_points, may_have_ends}
use Rattle.edi_record.specs.declared.record.Kind.{Kind}
use Rattle.edi_record.specs.declared.record.Kind.TheVariants.{Par, Pfe, Fea, Lnk}
use Rattle.edi_record.specs.declared.record.Point.{Point}
use Rattle.edi_schema.specs.Classes.{Classes, partner_of}
use Rattle.edi_schema.specs.Roles.{is_plain}
use Rattle.edi_schema.specs.Sorted.{sort_by, NeverFalls}
use Rattle.edi_schema.proofs.SortedLists.{NeverFalls-sort_by, IsPermutation-sort_by}
use Rattle.edi_record.specs.Records.{is_link}
use Rattle.edi_plan.specs.Plans.{PlanData, IsPlace, record_at, is_arc, is_object, first_of, rest_of, others_of}
use Rattle.edi_plan.specs.Whole.{IsWholePlan}
use Rattle.edi_plan.specs.declared.record.PlanRecord.{PlanRecord}
use Rattle.edi_plan.specs.declared.record.PlanEnd.{PlanEnd}
use Rattle.edi_topo.specs.TopologyRules.{BreaksTopologyRule}
use Rattle.edi_topo.specs.TopologyRules.BreaksTopologyRule.{equals_reverse}
use Rattle.edi_rank.specs.Arranged.{offset, new_place, numbered_cmp, ordered_ends, arranged_record, arranged}
use Rattle.edi_rank.specs.InOrder.{Both, IsInOrder}
use Rattle.edi_rank.specs.Keys.{end_cmp, link_key_cmp, object_key_cmp, face_key_cmp, numbered, link_key, least_side, object_key}
use Rattle.edi_rank.specs.Labelling.{Labelling, AreLabels, number_of, turned_at, turned_by}
use Rattle.edi_rank.specs.Same.{OneToOne, moved, directed}
use Rattle.edi_rank.specs.Turned.{is_forward, turned_record, role_after}
use Rattle.edi_rank.proofs.ArrangedOrder.{by_type, attributes_in_order, both_before, kind_from, nodes_rise, arcs_rise}
use Rattle.edi_rank.proofs.ArrangedUnder.{directed_long, plain_after}
use Rattle.edi_rank.proofs.Arranging.{From, came_from, new_places, record_placed, carries_record, carries_arranged, numbered_total}
use Rattle.edi_rank.proofs.KeysPreserved.{Kept, kept_from, two_hold, counted_equal, link_key_preserved, face_key_preserved, object_key_preserved}
use Rattle.edi_rank.proofs.TurnedRecords.{record_turned, turned_long, reverse_forward}
use Rattle.edi_rank.proofs.Renumbered.{up, shift, shift_cmp, link_shift, link_shift_cmp, object_shift, object_shift_cmp, face_shift, faces_shift_cmp, link_up, object_up, least_up, shifted, shifted_is, never-map}
use Rattle.edi_rank.proofs.SameLaws.{map_alike, map-map}

module _ (s : Classes) (p : PlanData) (l : Labelling) (labels : AreLabels s p l) (whole : IsWholePlan p) where
  abbrev to : ℕ → ℕ
  to = new_place l p

  abbrev off : Kind → ℕ
  off = offset l

  abbrev turned : PlanData
  turned = turned_by s l p

  abbrev made : PlanData
  made = arranged s l p

  long : length turned.list ≡ length p.list
  long = turned_long (partner_of s) (turned_at l.turned) 0 p.list

  there_too : (k : ℕ) → IsPlace p k → IsPlace turned k
  there_too k h = omega (arith, h, long)

  there_before : (k : ℕ) → IsPlace turned k → IsPlace p k
  there_before k h = omega (arith, h, long)

  after : (k : ℕ) → IsPlace turned k → record_at turned k ≡ turned_record (partner_of s) (turned_at l.turned) k (record_at p k)
  after k h = record_turned (partner_of s) (turned_at l.turned) p k (there_before k h)

  kind_turned : (k : ℕ) → IsPlace turned k → (record_at turned k).kind ≡ (record_at p k).kind
  kind_turned k h = ap (λ (r : PlanRecord). r.kind) (after k h)

  -- the turned plan is whole

  whole_turned : IsWholePlan turned
  whole_turned = record {
    few = omega (arith, long, whole.few);
    there = λ k h. subst (λ (r : PlanRecord). AllByRecursion (λ e. IsPlace turned e.target) r.ends) (sym (after k h))
        (each_weaker (λ e. IsPlace p e.target) (λ e. IsPlace turned e.target) (λ e t. there_too e.target t) (record_at p k).ends (whole.there k (there_before k h)));
    no_link = λ k h. subst (λ (r : PlanRecord). AllByRecursion (λ e. is_link (record_at turned e.target).kind ≡ false) r.ends) (sym (after k h))
        (each_weaker (λ e. IsPlace p e.target × (is_link (record_at p e.target).kind ≡ false)) (λ e. is_link (record_at turned e.target).kind ≡ false)
        (λ e t. ap is_link (kind_turned e.target (there_too e.target t.0)) ∙ t.1) (record_at p k).ends (two_hold _ _ _ (whole.there k (there_before k h)) (whole.no_link k (there_before k h))));
    points = λ k h. subst (λ (r : PlanRecord). may_have_points r.kind (length r.points) ≡ true) (sym (after k h))
        (ap (may_have_points (record_at p k).kind) (directed_long (turned_at l.turned k) (record_at p k).points) ∙ whole.points k (there_before k h));
    ends = λ k h. subst (λ (r : PlanRecord). may_have_ends r.kind (length r.ends) ≡ true) (sym (after k h)) (whole.ends k (there_before k h));
    one_arc = λ k h. subst (λ (r : PlanRecord). is_plain r.role ≡ false → count_by (λ e. is_arc (record_at turned e.target).kind) r.ends ≤ 1) (sym (after k h)) (one_arc k (there_before k h));
  }
    where
      one_arc : (k : ℕ) → IsPlace p k → is_plain (role_after (turned_at l.turned) (record_at p k)) ≡ false → count_by (λ e. is_arc (record_at turned e.target).kind) (record_at p k).ends ≤ 1
      one_arc k h kind = subst (λ n. n ≤ 1)
          (sym (counted_equal (λ (e : PlanEnd). IsPlace p e.target) (λ e. is_arc (record_at turned e.target).kind) (λ e. is_arc (record_at p e.target).kind)
          (λ e t. ap is_arc (kind_turned e.target (there_too e.target t))) (record_at p k).ends (whole.there k h)))
          (whole.one_arc k h (sym (plain_after (turned_at l.turned) (record_at p k)) ∙ kind))

  -- the turned plan goes over into the arranged one, with no arc reversed

  kept_made : (k : ℕ) → Kept to (turned_record (partner_of s) (turned_at l.turned) k (record_at p k)) (arranged_record s l p k)
  kept_made k =
      let c = kept_from s to (turned_at l.turned) k (record_at p k) (arranged_record s l p k) (carries_record s p l labels k) in
      record { kind = c.kind; attributes = c.attributes; extras = c.extras; origin = c.origin; others = c.others; ends = c.ends }

  kept : (k : ℕ) → IsPlace turned k → Kept to (record_at turned k) (record_at made (to k))
  kept k h = subst (λ r. Kept to r (record_at made (to k))) (sym (after k h)) (subst (Kept to (turned_record (partner_of s) (turned_at l.turned) k (record_at p k))) (sym (record_placed s p l labels k (there_before k h))) (kept_made k))

  class_kept : (k : ℕ) → IsPlace turned k → (record_at made (to k)).class ≡ (record_at turned k).class
  class_kept k h = ap (λ (r : PlanRecord). r.class) (record_placed s p l labels k (there_before k h)) ∙ sym (ap (λ (r : PlanRecord). r.class) (after k h))

  role_kept : (k : ℕ) → IsPlace turned k → (record_at made (to k)).role ≡ (record_at turned k).role
  role_kept k h = ap (λ (r : PlanRecord). r.role) (record_placed s p l labels k (there_before k h)) ∙ sym (ap (λ (r : PlanRecord). r.role) (after k h))

  places : OneToOne to (length turned.list) (length made.list)
  places = subst (λ n. OneToOne to n (length made.list)) (sym long) (new_places s p l labels)

  -- the number of a record, one step further on for each kind
  abbrev number : ℕ → ℕ
  number = up off turned (number_of l)

  number_is : (k : ℕ) → IsPlace turned k → suc (to k) ≡ number k
  number_is k h = omega (arith, shifted_is (off (record_at turned k).kind) (number_of l k) (labels.from_one k (there_before k h)), ap off (kind_turned k h), labels.from_one k (there_before k h))

  from : (j : ℕ) → IsPlace made j → From s p l labels j
  from j h = came_from s p l labels j h

  face_made : (j : ℕ) (w : From s p l labels j) → least_side made suc j ≡ Rattle.std.proofs.Common.option_map (face_shift off) (least_side turned (number_of l) w.old)
  face_made j w = ap (least_side made suc) (sym w.is)
      ∙ (ap first_of (face_key_preserved turned made whole_turned.there to places kept number suc role_kept (λ t h arc. number_is t h) w.old (there_too w.old w.there)) ∙ least_up off turned (number_of l) w.old)

  object_made : (j : ℕ) (w : From s p l labels j) → (record_at turned w.old).kind ≡ Fea → object_key made suc j ≡ object_shift off (object_key turned (number_of l) w.old)
  object_made j w object = ap (object_key made suc) (sym w.is)
      ∙ (object_key_preserved turned made whole_turned to places kept number suc (λ t h lower. number_is t h) w.old (there_too w.old w.there) (ap is_object object)
      (class_kept w.old (there_too w.old w.there)) (λ i h piece. class_kept i h) ∙ object_up off turned (number_of l) w.old)

  link_made : (j : ℕ) (w : From s p l labels j) → link_key made suc (record_at made j) ≡ link_shift off (link_key turned (number_of l) (record_at turned w.old))
  link_made j w = ap (λ i. link_key made suc (record_at made i)) (sym w.is)
      ∙ (link_key_preserved turned made whole_turned.there to places kept number suc (record_at turned w.old) (record_at made (to w.old)) (kept w.old (there_too w.old w.there)) (class_kept w.old (there_too w.old w.there))
      (each_weaker (λ e. IsPlace turned e.target) (λ e. IsPlace turned e.target × (suc (to e.target) ≡ number e.target)) (λ e t. (t, number_is e.target t)) (record_at turned w.old).ends (whole_turned.there w.old (there_too w.old w.there)))
      ∙ link_up off turned (number_of l) (record_at turned w.old))

  faces_rise : (i k : ℕ) → Both made suc Pfe i k → option_cmp face_key_cmp (least_side made suc i) (least_side made suc k) ≡ Less
  faces_rise i k both =
      let w = from i both.first in
      let v = from k both.second in
      ap₂ (option_cmp face_key_cmp) (face_made i w) (face_made k v)
      ∙ (faces_shift_cmp off (least_side turned (number_of l) w.old) (least_side turned (number_of l) v.old) ∙ labels.rise.faces w.old v.old (both_before s p l labels Pfe i k w v both))

  objects_rise : (i k : ℕ) → Both made suc Fea i k → object_key_cmp (object_key made suc i) (object_key made suc k) ≡ Less
  objects_rise i k both =
      let w = from i both.first in
      let v = from k both.second in
      let before = both_before s p l labels Fea i k w v both in
      ap₂ object_key_cmp (object_made i w before.first_kind) (object_made k v before.second_kind)
      ∙ (object_shift_cmp off (object_key turned (number_of l) w.old) (object_key turned (number_of l) v.old) ∙ labels.rise.objects w.old v.old before)

  links_rise : (i k : ℕ) → Both made suc Lnk i k → is_gt (link_key_cmp (link_key made suc (record_at made i)) (link_key made suc (record_at made k))) ≡ false
  links_rise i k both =
      let w = from i both.first in
      let v = from k both.second in
      ap is_gt (ap₂ link_key_cmp (link_made i w) (link_made k v) ∙ link_shift_cmp off (link_key turned (number_of l) (record_at turned w.old)) (link_key turned (number_of l) (record_at turned v.old)))
      ∙ labels.rise.links w.old v.old (both_before s p l labels Lnk i k w v both)

  -- the ends of each record

  end_made : (e : PlanEnd) → IsPlace p e.target → numbered made suc (moved to e) ≡ shift off (numbered p (number_of l) e)
  end_made e t =
      let c = carries_arranged s p l labels in
      let kind = (c.each e.target t).kind in
      let n : suc (to e.target) ≡ shifted (off (record_at p e.target).kind) (number_of l e.target) =
      omega (arith, shifted_is (off (record_at p e.target).kind) (number_of l e.target) (labels.from_one e.target t), labels.from_one e.target t) in
      λ i. record { kind = kind i; number = n i; sns = e.sns }

  others_made : (xs : List PlanEnd) → AllByRecursion (λ e. IsPlace p e.target) xs → NeverFalls end_cmp (map (numbered made suc) (rest_of (map (moved to) (ordered_ends p (number_of l) xs))))
  others_made [] all = tt
  others_made (x ∷ xs) all =
      let total = numbered_total p (number_of l) in
      let sorted = sort_by (numbered_cmp p (number_of l)) xs in
      let there = each_in_any_order (λ e. IsPlace p e.target) xs sorted (IsPermutation-sym _ _ (IsPermutation-sort_by (numbered_cmp p (number_of l)) total xs)) all.1 in
      subst (NeverFalls end_cmp)
      (sym (map-map (numbered made suc) (moved to) sorted ∙ map_alike (λ e. IsPlace p e.target) (λ e. numbered made suc (moved to e)) (λ e. shift off (numbered p (number_of l) e)) end_made sorted there))
      (never-map (numbered_cmp p (number_of l)) end_cmp (λ e. shift off (numbered p (number_of l) e)) (λ a b. shift_cmp off (numbered p (number_of l) a) (numbered p (number_of l) b)) sorted
      (NeverFalls-sort_by (numbered_cmp p (number_of l)) total xs))

  module _ (unbroken : IsUnbroken (BreaksTopologyRule p)) where
    forward : (i : ℕ) → IsPlace made i → (record_at made i).kind ≡ Par → is_forward (record_at made i).points ≡ true
    forward i h is =
        subst (λ (r : PlanRecord). is_forward r.points ≡ true) (sym w.made) (subst (λ t. is_forward (directed t points) ≡ true) (sym straight) (go (is_forward points) refl))
      where
        w : From s p l labels i
        w = from i h

        points : List Point
        points = (record_at p w.old).points

        arc : (record_at p w.old).kind ≡ Par
        arc = sym (kind_from s p l labels i w) ∙ is

        straight : turned_at l.turned w.old ≡ not (is_forward points)
        straight = labels.turned w.old w.there ∙ ap (λ kind. is_arc kind && not (is_forward points)) arc

        differs : points ≡ reverse points → ⊥
        differs e = unbroken 404 (suc w.old) (equals_reverse refl (w.old, points, refl, (w.there, arc, refl), e))

        go : (b : Bool) → is_forward points ≡ b → is_forward (directed (not b) points) ≡ true
        go true e = e
        go false e = reverse_forward points differs ∙ ap not e

    pub arranged_in_order : IsInOrder made
    arranged_in_order = record {
      by_type = by_type s p l labels;
      rise = record { nodes = nodes_rise s p l labels; arcs = arcs_rise s p l labels; faces = faces_rise; objects = objects_rise; links = links_rise };
      forward = forward;
      attributes = attributes_in_order s p l labels;
      others = λ i h. let w = from i h in subst (λ (r : PlanRecord). NeverFalls end_cmp (map (numbered made suc) (others_of r))) (sym w.made) (others_made (record_at p w.old).ends (whole.there w.old w.there));
    }
