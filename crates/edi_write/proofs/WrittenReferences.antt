-- The records that are written of a plan, as they are read, break no rule of references.
use Rattle.std.proofs.Common.{◌≡◌, ◌≢◌, ℕ, zero, suc, ◌-◌, ◌<◌, ◌⊎◌, inl, inr, false, true≢false, List, [], ◌∷◌, length, map, get_or, Some, None, slice_get, refl, sym, ap, ◌∙◌, subst, arith, Any}
use Rattle.std.specs.Prelude.{codes}
use Rattle.std.specs.List.{AllByRecursion}
use Rattle.std.proofs.lemmas.Option.{same_Some, none-some}
use Rattle.edi_line.specs.Refusal.{IsUnbroken}
use Rattle.edi_line.proofs.EachElement.{each_at, each_joined, each_from_found}
use Rattle.edi_record.specs.RecordLayout.{settled, settled_end, settled_record}
use Rattle.edi_record.specs.declared.record.Attribute.{Attribute}
use Rattle.edi_record.specs.LinkEnds.{EndData}
use Rattle.edi_record.specs.declared.record.Kind.{Kind}
use Rattle.edi_record.specs.declared.record.Kind.TheVariants.{Pno, Par, Pfe, Lnk}
use Rattle.edi_record.specs.declared.record.Record.{Record}
use Rattle.edi_schema.specs.Classes.{Classes, IsSchema, place_of, role_named}
use Rattle.edi_schema.specs.Roles.{is_plain}
use Rattle.edi_schema.specs.declared.role.Role.{Role}
use Rattle.edi_schema.specs.declared.role.Role.TheVariants.{Initial, Final, Left, Right, Plain}
use Rattle.edi_plan.specs.Agreeing.{AttributeAgrees, RecordAgrees, Agrees}
use Rattle.edi_plan.specs.Joined.{beside, HasEnds, IsJoin, IsJoined, JoinsArc}
use Rattle.edi_plan.specs.PlanOf.{own_name, place_named}
use Rattle.edi_record.specs.Records.{is_link}
use Rattle.edi_plan.specs.Plans.{PlanData, IsPlace, record_at, blank}
use Rattle.edi_plan.specs.ReferenceRules.{BreaksReferenceRule, IsLinkOfRole, JoinsArcTo, Names, RepeatsRecordName, HasUnknownClass, LacksAttributeClass, LeavesSubset, NamesNothing, JoinsWrong, RepeatsSide}
use Rattle.edi_plan.specs.ReferenceRules.BreaksReferenceRule.{repeats_name, lacks_class, lacks_attribute_class, leaves_subset, names_nothing, joins_wrong, repeats_side}
use Rattle.edi_plan.specs.Whole.{IsWholePlan}
use Rattle.edi_plan.specs.declared.record.PlanAttribute.{PlanAttribute}
use Rattle.edi_plan.specs.declared.record.PlanEnd.{PlanEnd}
use Rattle.edi_plan.proofs.Resolved.{role_there}
use Rattle.edi_rank.proofs.SameLaws.{record_agrees}
use Rattle.edi_write.specs.Layout.{class_name_of, name_in}
use Rattle.edi_write.specs.Written.{letters, written_attribute, written_end, written_records, HasAttributeClasses}
use Rattle.edi_write.proofs.Naming.{one_place}
use Rattle.edi_write.proofs.WrittenRecords.{place_there, read_records, read_record, read_at, read_back, read_named}

-- ---- lists

-- what holds of none is not met
none_met : {X : Type 0} (P Q : X → Type 0) → ((x : X) → Q x → P x → ⊥) → (xs : List X) → AllByRecursion Q xs → Any P xs → ⊥
none_met P Q apart xs all some = apart some.1 (subst Q some.3 (each_at Q xs some.0 some.1 some.2 all)) some.4

-- the two of a list of two
abbrev Two : (es : List PlanEnd) (a b : ℕ) → Type 0
Two es a b = (x y : PlanEnd) × (es ≡ x ∷ y ∷ []) × (x.target ≡ a) × (y.target ≡ b)

two_ends : (es : List PlanEnd) (a b : ℕ) → map (λ e. e.target) es ≡ a ∷ b ∷ [] → Two es a b
two_ends [] a b h = cc
two_ends (x ∷ []) a b h = cc
two_ends (x ∷ y ∷ []) a b h = (x, y, refl, cc, cc)
two_ends (x ∷ y ∷ z ∷ es) a b h = cc

module _ (s : Classes) (p : PlanData) (keeps : IsSchema s) (whole : IsWholePlan p) (agrees : Agrees s p) where
  abbrev list : List Record
  list = read_records s p

  agrees_at : (k : ℕ) → IsPlace p k → RecordAgrees s (record_at p k)
  agrees_at k h = record_agrees s p.list agrees k h

  -- the record at a place from 1
  at_back : (at : ℕ) (r : Record) → slice_get list (at - 1) ≡ Some r → IsPlace p (at - 1) × (r ≡ read_record s p (at - 1))
  at_back at r e = read_back s p (at - 1) r e

  class_read : (k : ℕ) → IsPlace p k → place_of s (read_record s p k).scp ≡ Some (record_at p k).class
  class_read k h = place_there s keeps (record_at p k).class (agrees_at k h).known

  role_read : (k : ℕ) → IsPlace p k → role_named s (read_record s p k).scp ≡ Some (record_at p k).role
  role_read k h = role_there s (class_name_of s (record_at p k).class) (record_at p k).class (class_read k h) ∙ ap Some (sym (agrees_at k h).role)

  -- ---- names

  no_repeat : (at : ℕ) → RepeatsRecordName s list at → ⊥
  no_repeat at h =
      let q = at_back h.0 h.1 h.4.1 in
      let r = at_back at h.2 h.5.1 in
      let same : name_in s p (h.0 - 1) ≡ name_in s p (at - 1) = ap own_name (sym q.1) ∙ (h.6 ∙ ap own_name r.1) in
      let one = one_place s p whole (h.0 - 1) (at - 1) q.0 r.0 same in
      omega (arith, one, h.3, h.4.0, h.5.0)

  no_class_lacks : (at : ℕ) → HasUnknownClass s list at → ⊥
  no_class_lacks at h =
      let r = at_back at h.0 h.1.1 in
      none-some _ (sym h.2 ∙ (ap (λ (x : Record). place_of s x.scp) r.1 ∙ class_read (at - 1) r.0))

  -- ---- attributes

  abbrev IsFound : Attribute → Type 0
  IsFound b = (b.atp.rty ≡ codes "ATT") × ((class : ℕ) × (place_of s b.atp ≡ Some class))

  found : (xs : List PlanAttribute) → AllByRecursion (AttributeAgrees s) xs → AllByRecursion (λ a. (class_name_of s a.atp).rty ≡ codes "ATT") xs → AllByRecursion IsFound (map (settled (letters s)) (map (written_attribute s) xs))
  found [] agree types = tt
  found (a ∷ xs) agree types = ((types.0, (a.atp, place_there s keeps a.atp agree.0.known)), found xs agree.1 types.1)

  unfound : (b : Attribute) → IsFound b → ((b.atp.rty ≢ codes "ATT") ⊎ (place_of s b.atp ≡ None)) → ⊥
  unfound b is (inl other) = other is.0
  unfound b is (inr none) = none-some is.1.0 (sym none ∙ is.1.1)

  no_attribute_lacks : HasAttributeClasses s p → (at : ℕ) → LacksAttributeClass s list at → ⊥
  no_attribute_lacks types at h =
      let r = at_back at h.0 h.1.1 in
      let all = found (record_at p (at - 1)).attributes (agrees_at (at - 1) r.0).attributes (each_at (λ x. AllByRecursion (λ a. (class_name_of s a.atp).rty ≡ codes "ATT") x.attributes) p.list (at - 1) blank r.0 types) in
      none_met (λ b. (b.atp.rty ≢ codes "ATT") ⊎ (place_of s b.atp ≡ None)) IsFound unfound h.0.attributes (subst (λ (x : Record). AllByRecursion IsFound x.attributes) (sym r.1) all) h.2

  -- ---- ends

  abbrev IsOurs : EndData → Type 0
  IsOurs e = (e.lot ≡ codes "CANON") × (e.subset ≡ codes "S")

  ours : (es : List PlanEnd) → AllByRecursion IsOurs (map settled_end (map (written_end s p) es))
  ours [] = tt
  ours (e ∷ es) = ((refl, refl), ours es)

  all_ours : AllByRecursion (λ (r : Record). AllByRecursion IsOurs r.ends) list
  all_ours = each_from_found (λ (r : Record). AllByRecursion IsOurs r.ends) list (λ k r e. subst (λ (x : Record). AllByRecursion IsOurs x.ends) (sym (read_back s p k r e).1) (ours (record_at p k).ends))

  one_subset : (e d : EndData) → IsOurs e → IsOurs d → ((d.lot ≢ e.lot) ⊎ (d.subset ≢ e.subset)) → ⊥
  one_subset e d is is' (inl other) = other (is'.0 ∙ sym is.0)
  one_subset e d is is' (inr other) = other (is'.1 ∙ sym is.1)

  no_subset_leaves : (at : ℕ) → LeavesSubset s list at → ⊥
  no_subset_leaves at h =
      let r = at_back at h.0 h.3.1 in
      let first : IsOurs h.1 = (subst (AllByRecursion IsOurs) h.4 (each_joined IsOurs (λ (q : Record). q.ends) list all_ours)).0 in
      none_met (λ d. (d.lot ≢ h.1.lot) ⊎ (d.subset ≢ h.1.subset)) IsOurs (λ d is. one_subset h.1 d first is) h.0.ends
      (subst (λ (x : Record). AllByRecursion IsOurs x.ends) (sym r.1) (ours (record_at p (at - 1)).ends)) h.5

  -- the name of a place names the record there
  names_place : (e : EndData) (k : ℕ) (kind : Kind) → IsPlace p k → e.target ≡ name_in s p k → (record_at p k).kind ≡ kind → Names s list e k kind
  names_place e k kind h is of_kind = (read_record s p k, ap (place_named list) is ∙ read_named s p whole k h, read_at s p k h, of_kind)

  -- and nothing else
  place_is : (e : EndData) (k a : ℕ) (kind : Kind) → IsPlace p k → e.target ≡ name_in s p k → Names s list e a kind → (a ≡ k) × ((record_at p k).kind ≡ kind)
  place_is e k a kind h is names =
      let same : a ≡ k = same_Some a k (sym names.1 ∙ (ap (place_named list) is ∙ read_named s p whole k h)) in
      let there = subst (λ j. slice_get list j ≡ Some names.0) same names.2 in
      (same, ap (λ (r : Record). r.kind) (sym (read_back s p k names.0 there).1) ∙ names.3)

  abbrev NamesRecord : EndData → Type 0
  NamesRecord e = (k : ℕ) × IsPlace p k × (e.target ≡ name_in s p k) × (is_link (record_at p k).kind ≡ false)

  named : (es : List PlanEnd) → AllByRecursion (λ e. IsPlace p e.target) es → AllByRecursion (λ e. is_link (record_at p e.target).kind ≡ false) es → AllByRecursion NamesRecord (map settled_end (map (written_end s p) es))
  named [] there none = tt
  named (e ∷ es) there none = ((e.target, there.0, refl, none.0), named es there.1 none.1)

  unnamed : (e : EndData) → NamesRecord e → ((place : ℕ) (kind : Kind) → Names s list e place kind → kind ≡ Lnk) → ⊥
  unnamed e is only =
      let link : (record_at p is.0).kind ≡ Lnk = only is.0 (record_at p is.0).kind (names_place e is.0 (record_at p is.0).kind is.1 is.2 refl) in
      true≢false (sym (ap is_link link) ∙ is.3)

  no_end_unnamed : (at : ℕ) → NamesNothing s list at → ⊥
  no_end_unnamed at h =
      let r = at_back at h.0 h.1.1 in
      none_met (λ e. (place : ℕ) (kind : Kind) → Names s list e place kind → kind ≡ Lnk) NamesRecord unnamed h.0.ends
      (subst (λ (x : Record). AllByRecursion NamesRecord x.ends) (sym r.1) (named (record_at p (at - 1)).ends (whole.there (at - 1) r.0) (whole.no_link (at - 1) r.0))) h.2

  -- ---- links of the four kinds

  role_is : (at : ℕ) (r : Record) (role : Role) → IsPlace p (at - 1) → r ≡ read_record s p (at - 1) → IsLinkOfRole s list r role → ((record_at p (at - 1)).kind ≡ Lnk) × ((record_at p (at - 1)).role ≡ role)
  role_is at r role h is has =
      (ap (λ (x : Record). x.kind) (sym is) ∙ has.0, same_Some _ _ (sym (role_read (at - 1) h) ∙ (ap (λ (x : Record). role_named s x.scp) (sym is) ∙ has.1)))

  not_plain : (role : Role) → role ≢ Plain → is_plain role ≡ false
  not_plain Initial other = refl
  not_plain Final other = refl
  not_plain Left other = refl
  not_plain Right other = refl
  not_plain Plain other = absurd (other refl)

  join_at : (k : ℕ) (role : Role) → role ≢ Plain → IsPlace p k → (record_at p k).kind ≡ Lnk → (record_at p k).role ≡ role → IsJoin p k
  join_at k role other h kind is = record { there = h; is_link = kind; not_plain = ap is_plain is ∙ not_plain role other }

  read_two : (k : ℕ) (x y : PlanEnd) → (record_at p k).ends ≡ x ∷ y ∷ [] → (read_record s p k).ends ≡ written_end s p x ∷ written_end s p y ∷ []
  read_two k x y is = ap (λ es. map settled_end (map (written_end s p) es)) is

  two_there : (k : ℕ) (x y : PlanEnd) → IsPlace p k → (record_at p k).ends ≡ x ∷ y ∷ [] → IsPlace p x.target × IsPlace p y.target
  two_there k x y h is = let all = subst (AllByRecursion (λ (e : PlanEnd). IsPlace p e.target)) is (whole.there k h) in (all.0, all.1.0)

  join_read : (k : ℕ) (kind : Kind) → IsPlace p k → (d : JoinsArc p k) → (record_at p d.other).kind ≡ kind → JoinsArcTo s list kind (read_record s p k)
  join_read k kind h d of_kind = go d.ends
    where
      go : HasEnds p k d.arc d.other → JoinsArcTo s list kind (read_record s p k)
      go (inl e) =
          let t = two_ends (record_at p k).ends d.arc d.other e in
          let there = two_there k t.0 t.1 h t.2 in (
            written_end s p t.0,
            written_end s p t.1,
            d.arc,
            d.other,
            inl (read_two k t.0 t.1 t.2),
            names_place (written_end s p t.0) d.arc Par (subst (IsPlace p) t.3 there.0) (ap (name_in s p) t.3) d.is_arc,
            names_place (written_end s p t.1) d.other kind (subst (IsPlace p) t.4 there.1) (ap (name_in s p) t.4) of_kind,
          )
      go (inr e) =
          let t = two_ends (record_at p k).ends d.other d.arc e in
          let there = two_there k t.0 t.1 h t.2 in (
            written_end s p t.1,
            written_end s p t.0,
            d.arc,
            d.other,
            inr (read_two k t.0 t.1 t.2),
            names_place (written_end s p t.1) d.arc Par (subst (IsPlace p) t.4 there.1) (ap (name_in s p) t.4) d.is_arc,
            names_place (written_end s p t.0) d.other kind (subst (IsPlace p) t.3 there.0) (ap (name_in s p) t.3) of_kind,
          )

  module _ (joined : IsJoined p) where
    joins_right : (at : ℕ) (r : Record) (role : Role) (kind : Kind) → IsPlace p (at - 1) → r ≡ read_record s p (at - 1) → role ≢ Plain → beside role ≡ kind → IsLinkOfRole s list r role → JoinsArcTo s list kind r
    joins_right at r role kind h is other besides has =
        let role' = role_is at r role h is has in
        let d = joined.joins (at - 1) (join_at (at - 1) role other h role'.0 role'.1) in
        subst (JoinsArcTo s list kind) (sym is) (join_read (at - 1) kind h d (d.is_beside ∙ (ap beside role'.1 ∙ besides)))

    no_join_wrong : (at : ℕ) → JoinsWrong s list at → ⊥
    no_join_wrong at h = go h.2
      where
        r : IsPlace p (at - 1) × (h.0 ≡ read_record s p (at - 1))
        r = at_back at h.0 h.1.1

        go : (((IsLinkOfRole s list h.0 Initial ⊎ IsLinkOfRole s list h.0 Final) × ¬ (JoinsArcTo s list Pno h.0)) ⊎ ((IsLinkOfRole s list h.0 Left ⊎ IsLinkOfRole s list h.0 Right) × ¬ (JoinsArcTo s list Pfe h.0))) → ⊥
        go (inl (inl has, wrong)) = wrong (joins_right at h.0 Initial Pno r.0 r.1 (λ e. cc) refl has)
        go (inl (inr has, wrong)) = wrong (joins_right at h.0 Final Pno r.0 r.1 (λ e. cc) refl has)
        go (inr (inl has, wrong)) = wrong (joins_right at h.0 Left Pfe r.0 r.1 (λ e. cc) refl has)
        go (inr (inr has, wrong)) = wrong (joins_right at h.0 Right Pfe r.0 r.1 (λ e. cc) refl has)

    no_arc_beside : (role : Role) → role ≢ Plain → beside role ≡ Par → ⊥
    no_arc_beside Initial other e = cc
    no_arc_beside Final other e = cc
    no_arc_beside Left other e = cc
    no_arc_beside Right other e = cc
    no_arc_beside Plain other e = other refl

    -- an arc that an end of the link names is the arc that the link joins
    the_arc : (k a : ℕ) (role : Role) → role ≢ Plain → IsPlace p k → (record_at p k).role ≡ role → (d : JoinsArc p k) → Any (λ e. Names s list e a Par) (read_record s p k).ends → a ≡ d.arc
    the_arc k a role other h is d some = go d.ends
      where
        either : (x y : PlanEnd) → (record_at p k).ends ≡ x ∷ y ∷ [] → ((a ≡ x.target) × ((record_at p a).kind ≡ Par)) ⊎ ((a ≡ y.target) × ((record_at p a).kind ≡ Par))
        either x y e = which some.0 some.2 some.3
          where
            there : IsPlace p x.target × IsPlace p y.target
            there = two_there k x y h e

            which : (i : ℕ) → i < length (read_record s p k).ends → get_or (read_record s p k).ends i some.1 ≡ some.1 → ((a ≡ x.target) × ((record_at p a).kind ≡ Par)) ⊎ ((a ≡ y.target) × ((record_at p a).kind ≡ Par))
            which zero within at =
                let end : written_end s p x ≡ some.1 = sym (ap (λ es. get_or es 0 some.1) (read_two k x y e)) ∙ at in
                let is_it = place_is some.1 x.target a Par there.0 (ap (λ (z : EndData). z.target) (sym end)) some.4 in
                inl (is_it.0, ap (λ j. (record_at p j).kind) is_it.0 ∙ is_it.1)
            which (suc zero) within at =
                let end : written_end s p y ≡ some.1 = sym (ap (λ es. get_or es 1 some.1) (read_two k x y e)) ∙ at in
                let is_it = place_is some.1 y.target a Par there.1 (ap (λ (z : EndData). z.target) (sym end)) some.4 in
                inr (is_it.0, ap (λ j. (record_at p j).kind) is_it.0 ∙ is_it.1)
            which (suc (suc i)) within at = let long = ap length (read_two k x y e) in absurd (omega (arith, within, long))

        not_other : a ≡ d.other → (record_at p a).kind ≡ Par → ⊥
        not_other e arc = no_arc_beside role other (sym (d.is_beside ∙ ap beside is) ∙ (ap (λ j. (record_at p j).kind) (sym e) ∙ arc))

        go : HasEnds p k d.arc d.other → a ≡ d.arc
        go (inl e) = let t = two_ends (record_at p k).ends d.arc d.other e in first t.3 t.4 (either t.0 t.1 t.2)
          where
            first : {m n : ℕ} → m ≡ d.arc → n ≡ d.other → ((a ≡ m) × ((record_at p a).kind ≡ Par)) ⊎ ((a ≡ n) × ((record_at p a).kind ≡ Par)) → a ≡ d.arc
            first f g (inl w) = w.0 ∙ f
            first f g (inr w) = absurd (not_other (w.0 ∙ g) w.1)
        go (inr e) = let t = two_ends (record_at p k).ends d.other d.arc e in second t.3 t.4 (either t.0 t.1 t.2)
          where
            second : {m n : ℕ} → m ≡ d.other → n ≡ d.arc → ((a ≡ m) × ((record_at p a).kind ≡ Par)) ⊎ ((a ≡ n) × ((record_at p a).kind ≡ Par)) → a ≡ d.arc
            second f g (inl w) = absurd (not_other (w.0 ∙ f) w.1)
            second f g (inr w) = w.0 ∙ g

    no_side_repeats : (at : ℕ) → RepeatsSide s list at → ⊥
    no_side_repeats at h =
        let m = h.0 in
        let a = h.1 in
        let role = h.4 in
        let q = at_back m h.2 h.6.1 in
        let r = at_back at h.3 h.7.1 in
        let before = role_is m h.2 role q.0 q.1 h.9 in
        let here = role_is at h.3 role r.0 r.1 h.10 in
        let join_before = join_at (m - 1) role h.8 q.0 before.0 before.1 in
        let join_here = join_at (at - 1) role h.8 r.0 here.0 here.1 in
        let d = joined.joins (m - 1) join_before in
        let e = joined.joins (at - 1) join_here in
        let arc_before = the_arc (m - 1) a role h.8 q.0 before.1 d (subst (λ (x : Record). Any (λ e. Names s list e a Par) x.ends) q.1 h.11) in
        let arc_here = the_arc (at - 1) a role h.8 r.0 here.1 e (subst (λ (x : Record). Any (λ e. Names s list e a Par) x.ends) r.1 h.12) in
        let one = joined.one_side (m - 1) (at - 1) a d.other e.other join_before join_here (before.1 ∙ sym here.1) (ap (λ j. (record_at p j).kind) arc_before ∙ d.is_arc)
        (subst (λ j. HasEnds p (m - 1) j d.other) (sym arc_before) d.ends) (subst (λ j. HasEnds p (at - 1) j e.other) (sym arc_here) e.ends) in
        omega (arith, one, h.5, h.6.0, h.7.0)

pub written_references : (s : Classes) (p : PlanData) → IsSchema s → IsWholePlan p → Agrees s p → IsJoined p → HasAttributeClasses s p
    → IsUnbroken (BreaksReferenceRule s (map (settled_record (letters s)) (written_records s p)))
written_references s p keeps whole agrees joined types rule at (repeats_name e h) = no_repeat s p keeps whole agrees at h
written_references s p keeps whole agrees joined types rule at (lacks_class e h) = no_class_lacks s p keeps whole agrees at h
written_references s p keeps whole agrees joined types rule at (lacks_attribute_class e h) = no_attribute_lacks s p keeps whole agrees types at h
written_references s p keeps whole agrees joined types rule at (leaves_subset e h) = no_subset_leaves s p keeps whole agrees at h
written_references s p keeps whole agrees joined types rule at (names_nothing e h) = no_end_unnamed s p keeps whole agrees at h
written_references s p keeps whole agrees joined types rule at (joins_wrong e h) = no_join_wrong s p keeps whole agrees joined at h
written_references s p keeps whole agrees joined types rule at (repeats_side e h) = no_side_repeats s p keeps whole agrees joined at h
