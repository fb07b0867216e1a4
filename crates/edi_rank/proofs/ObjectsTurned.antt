-- The keys of objects are those of the plan before the reversals.
use Rattle.std.proofs.Common.{◌≡◌, ℕ, suc, ◌⊎◌, inl, inr, Bool, true, false, cond, ◌==◌, nat_eq, List, [], ◌∷◌, map, filter_map, length, Some, None, refl, ap, ap₂, ◌∙◌, subst, arith, count_by, eqb-true}
use Rattle.std.specs.List.{AllByRecursion, list_any}
use Rattle.edi_line.proofs.EachElement.{each_weaker}
use Rattle.edi_record.specs.Shapes.{may_have_ends}
use Rattle.edi_record.specs.declared.record.Kind.TheVariants.{Fea, Lnk}
use Rattle.edi_schema.specs.Classes.{Classes, partner_of}
use Rattle.edi_schema.specs.Roles.{is_plain}
use Rattle.edi_schema.specs.Sorted.{sort_by}
use Rattle.edi_schema.proofs.SortedLists.{count_by-cons}
use Rattle.edi_plan.specs.Joined.{IsJoined, JoinsArc}
use Rattle.edi_record.specs.Records.{is_link}
use Rattle.edi_record.proofs.KindCodes.{link_is}
use Rattle.edi_plan.specs.Plans.{PlanData, IsPlace, record_at, blank, is_object}
use Rattle.edi_plan.specs.Whole.{IsWholePlan}
use Rattle.edi_plan.specs.declared.record.PlanRecord.{PlanRecord}
use Rattle.edi_plan.specs.declared.record.PlanEnd.{PlanEnd}
use Rattle.edi_rank.specs.Keys.{end_cmp, numbered, ends_key, link_key, link_key_cmp, is_piece, marked, piece_by, object_key}
use Rattle.edi_rank.specs.Labelling.{Labelling, turned_at, turned_by}
use Rattle.edi_rank.specs.Same.{class_after}
use Rattle.edi_rank.specs.Turned.{turned_record}
use Rattle.edi_rank.proofs.Gathered.{gathered_same}
use Rattle.edi_rank.proofs.KeysPreserved.{two_hold, counted_equal}
use Rattle.edi_rank.proofs.ObjectKeys.{only_own}
use Rattle.edi_rank.proofs.ObjectsPreserved.{all_three, no_object_beside}
use Rattle.edi_rank.proofs.SameLaws.{map_alike}
use Rattle.edi_rank.proofs.TurnedRecords.{record_turned, turned_long}

module _ (s : Classes) (p : PlanData) (whole : IsWholePlan p) (joined : IsJoined p) (l : Labelling) (number was : ℕ → ℕ)
    (same : (k : ℕ) → IsPlace p k → is_link (record_at p k).kind ≡ false → is_object (record_at p k).kind ≡ false → number k ≡ was k) where
  abbrev made : PlanData
  made = turned_by s l p

  abbrev turned : ℕ → Bool
  turned = turned_at l.turned

  after : (k : ℕ) → IsPlace p k → record_at made k ≡ turned_record (partner_of s) turned k (record_at p k)
  after k h = record_turned (partner_of s) turned p k h

  kind_made : (k : ℕ) → IsPlace p k → (record_at made k).kind ≡ (record_at p k).kind
  kind_made k h = ap (λ (r : PlanRecord). r.kind) (after k h)

  abbrev object_end : PlanData → PlanEnd → Bool
  object_end q e = is_object (record_at q e.target).kind

  count_stays : (k : ℕ) → IsPlace p k → count_by (object_end made) (record_at p k).ends ≡ count_by (object_end p) (record_at p k).ends
  count_stays k h = counted_equal (λ (e : PlanEnd). IsPlace p e.target) (object_end made) (object_end p) (λ e t. ap is_object (kind_made e.target t)) (record_at p k).ends (whole.there k h)

  -- a link of one of the four kinds has no object among its ends
  none_joined : (a x : ℕ) (ends : List PlanEnd) → is_object (record_at p a).kind ≡ false → is_object (record_at p x).kind ≡ false → map (λ (e : PlanEnd). e.target) ends ≡ a ∷ x ∷ [] → count_by (object_end p) ends ≡ 0
  none_joined a x [] f g e = refl
  none_joined a x (d ∷ []) f g e = absurd (omega (arith, ap length e))
  none_joined a x (d ∷ b ∷ c ∷ ends) f g e = absurd (omega (arith, ap length e))
  none_joined a x (d ∷ b ∷ []) f g e =
      let first : d.target ≡ a = cc in
      let second : b.target ≡ x = cc in
      let here : object_end p d ≡ false = ap (λ k. is_object (record_at p k).kind) first ∙ f in
      let there : object_end p b ≡ false = ap (λ k. is_object (record_at p k).kind) second ∙ g in
      let one : cond {A = ℕ} (object_end p d) 1 0 ≡ 0 = ap (λ t. cond {A = ℕ} t 1 0) here in
      let two : cond {A = ℕ} (object_end p b) 1 0 ≡ 0 = ap (λ t. cond {A = ℕ} t 1 0) there in
      let none : count_by (object_end p) [] ≡ 0 = refl in
      omega (arith, count_by-cons (object_end p) d (b ∷ []), one, count_by-cons (object_end p) b [], two, none)

  piece_is_plain : (k : ℕ) → IsPlace p k → (record_at p k).kind ≡ Lnk → count_by (object_end p) (record_at p k).ends ≡ 1 → is_plain (record_at p k).role ≡ true
  piece_is_plain k h link one = go (is_plain (record_at p k).role) refl
    where
      none : JoinsArc p k → ⊥
      none j = at j.ends
        where
          other : is_object (record_at p j.other).kind ≡ false
          other = ap is_object j.is_beside ∙ no_object_beside (record_at p k).role

          at : (map (λ (e : PlanEnd). e.target) (record_at p k).ends ≡ j.arc ∷ j.other ∷ []) ⊎ (map (λ (e : PlanEnd). e.target) (record_at p k).ends ≡ j.other ∷ j.arc ∷ []) → ⊥
          at (inl e) = absurd (omega (arith, one, none_joined j.arc j.other (record_at p k).ends (ap is_object j.is_arc) other e))
          at (inr e) = absurd (omega (arith, one, none_joined j.other j.arc (record_at p k).ends other (ap is_object j.is_arc) e))

      go : (b : Bool) → is_plain (record_at p k).role ≡ b → b ≡ true
      go true e = refl
      go false e = absurd (none (joined.joins k (record { there = h; is_link = link; not_plain = e })))

  module _ (o : ℕ) (object : (record_at p o).kind ≡ Fea) where
    abbrev Known : PlanEnd → Type 0
    Known e = IsPlace p e.target × (is_link (record_at p e.target).kind ≡ false) × (nat_eq e.target o ≡ false → is_object (record_at p e.target).kind ≡ false)

    end_stays : (e : PlanEnd) → Known e → numbered made (marked number o) e ≡ numbered p (marked was o) e
    end_stays e h = ap₂ (λ kind n. record { kind = kind; number = n; sns = e.sns }) (kind_made e.target h.0) (go (nat_eq e.target o) refl)
      where
        go : (b : Bool) → nat_eq e.target o ≡ b → cond b 0 (number e.target) ≡ cond b 0 (was e.target)
        go true f = refl
        go false f = same e.target h.0 h.1 (h.2 f)

    ends_stay : (ends : List PlanEnd) → AllByRecursion Known ends → ends_key made (marked number o) ends ≡ ends_key p (marked was o) ends
    ends_stay [] all = refl
    ends_stay (e ∷ ends) all = ap₂ ◌∷◌ (end_stays e all.0) (ap (sort_by end_cmp) (map_alike Known (numbered made (marked number o)) (numbered p (marked was o)) end_stays ends all.1))

    ends_answered : (k : ℕ) → IsPlace p k → count_by (object_end p) (record_at p k).ends ≡ 1 → list_any (λ e. nat_eq e.target o) (record_at p k).ends ≡ true → AllByRecursion Known (record_at p k).ends
    ends_answered k h one own =
        let xs = (record_at p k).ends in
        let others = only_own (object_end p) (λ e. nat_eq e.target o) (λ e f. ap (λ j. is_object (record_at p j).kind) (eqb-true e.target o f) ∙ ap is_object object) xs one own in
        each_weaker (λ e. IsPlace p e.target × ((is_link (record_at p e.target).kind ≡ false) × (nat_eq e.target o ≡ false → is_object (record_at p e.target).kind ≡ false))) Known (λ e f. (f.0, f.1.0, f.1.1)) xs
        (two_hold _ _ xs (whole.there k h) (two_hold _ _ xs (whole.no_link k h) others))

    key_stays : (k : ℕ) → IsPlace p k → is_piece p o (record_at p k) ≡ true → link_key made (marked number o) (turned_record (partner_of s) turned k (record_at p k)) ≡ link_key p (marked was o) (record_at p k)
    key_stays k h test =
        let r = record_at p k in
        let parts = all_three (is_link r.kind) (count_by (object_end p) r.ends == 1) (list_any (λ e. nat_eq e.target o) r.ends) test in
        let one : count_by (object_end p) r.ends ≡ 1 = eqb-true _ _ parts.1 in
        let plain = piece_is_plain k h (link_is r.kind parts.0) one in
        let class : class_after (partner_of s) turned r ≡ r.class = ap (λ b. cond b r.class (cond (list_any (λ e. turned e.target) r.ends) (partner_of s r.class) r.class)) plain in
        let ends = ends_stay r.ends (ends_answered k h one parts.2) in
        let key = link_key p (marked was o) r in
        λ i. record { class = class i; ends = ends i; attributes = key.attributes; extras = key.extras }

    piece_stays : (k : ℕ) → IsPlace p k → piece_by made number o (record_at made k) ≡ piece_by p was o (record_at p k)
    piece_stays k h = ap (piece_by made number o) (after k h) ∙ (rw (count_stays k h) (go (is_piece p o (record_at p k)) refl))
      where
        go : (b : Bool) → is_piece p o (record_at p k) ≡ b
            → cond (is_piece p o (record_at p k)) (Some (link_key made (marked number o) (turned_record (partner_of s) turned k (record_at p k)))) None ≡ cond (is_piece p o (record_at p k)) (Some (link_key p (marked was o) (record_at p k))) None
        go true e = rw e (ap Some (key_stays k h e))
        go false e = rw e refl

    pub object_stays : IsPlace p o → object_key made number o ≡ object_key p was o
    object_stays h =
        let r = record_at p o in
        let key = object_key p was o in
        let class : (record_at made o).class ≡ r.class = ap (λ (r : PlanRecord). r.class) (after o h) ∙ class_of r.ends (endless r.ends (subst (λ kind. may_have_ends kind (length r.ends) ≡ true) object (whole.ends o h))) (is_plain r.role) in
        let attributes : sort_by Rattle.edi_plan.specs.Orders.attribute_cmp (record_at made o).attributes ≡ key.attributes = ap (λ (r : PlanRecord). sort_by Rattle.edi_plan.specs.Orders.attribute_cmp r.attributes) (after o h) in
        let extras : (record_at made o).extras ≡ r.extras = ap (λ (r : PlanRecord). r.extras) (after o h) in
        let long : length made.list ≡ length p.list = turned_long (partner_of s) turned 0 p.list in
        let pieces : sort_by link_key_cmp (filter_map (piece_by made number o) made.list) ≡ key.pieces = ap (sort_by link_key_cmp)
        (gathered_same (piece_by made number o) (piece_by p was o) made.list p.list blank blank long (λ i t. piece_stays i (omega (arith, t, long)))) in
        λ i. record { class = class i; attributes = attributes i; extras = extras i; pieces = pieces i }
      where
        endless : (xs : List PlanEnd) → may_have_ends Fea (length xs) ≡ true → xs ≡ []
        endless [] none = refl
        endless (x ∷ xs) none = let e : suc (length xs) ≡ 0 = eqb-true _ _ none in absurd (omega (arith, e))

        class_of : (xs : List PlanEnd) → xs ≡ [] → (b : Bool) → cond b (record_at p o).class (cond (list_any (λ (x : PlanEnd). turned x.target) xs) (partner_of s (record_at p o).class) (record_at p o).class) ≡ (record_at p o).class
        class_of [] e true = refl
        class_of [] e false = refl
        class_of (x ∷ xs) e b = cc
