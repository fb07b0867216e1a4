-- What the rules of references leave of links.
use Rattle.std.proofs.Common.{◌≡◌, ℕ, suc, ◌-◌, ◌<◌, ◌⊎◌, inl, inr, Bool, true, false, List, [], ◌∷◌, length, map, Some, slice_get, refl, sym, ap, ◌∙◌, subst, arith, true≢false, eqb-true, eq-eqb, Any}
use Rattle.std.specs.List.{AllZip}
use Rattle.std.proofs.lemmas.Bool.{cases_order}
use Rattle.std.proofs.lemmas.Option.{same_Some}
use Rattle.edi_line.specs.Refusal.{IsUnbroken}
use Rattle.edi_line.proofs.EachElement.{any_here, any_later}
use Rattle.edi_record.specs.LinkEnds.{EndData}
use Rattle.edi_record.specs.declared.record.Kind.{Kind}
use Rattle.edi_record.specs.declared.record.Kind.TheVariants.{Par}
use Rattle.edi_record.specs.declared.record.Record.{Record}
use Rattle.edi_record.specs.Records.{SheetData}
use Rattle.edi_schema.specs.Classes.{Classes}
use Rattle.edi_schema.specs.Roles.{is_plain}
use Rattle.edi_schema.specs.declared.role.Role.{Role}
use Rattle.edi_schema.specs.declared.role.Role.TheVariants.{Initial, Final, Left, Right, Plain}
use Rattle.edi_plan.specs.Joined.{beside, HasEnds, JoinsArc, IsJoin, IsJoined}
use Rattle.edi_plan.specs.PlanOf.{IsPlanOf, StatesPlanEnd, StatesPlanRecord}
use Rattle.edi_plan.specs.Plans.{PlanData, IsPlace, record_at, blank, same_kind, kind_rank}
use Rattle.edi_plan.specs.ReferenceRules.{IsRecordAt, BreaksReferenceRule, Names, JoinsArcTo}
use Rattle.edi_plan.specs.ReferenceRules.BreaksReferenceRule.{joins_wrong, repeats_side}
use Rattle.edi_plan.specs.Sides.{targets}
use Rattle.edi_plan.specs.declared.record.PlanEnd.{PlanEnd}
use Rattle.edi_plan.proofs.Built.{zip_at, zip_back}
use Rattle.edi_plan.proofs.NameLemmas.{has_name}
use Rattle.edi_plan.proofs.PlaceLemmas.{one_kind}

plain_not : (role : Role) → is_plain role ≡ false → role ≡ Plain → ⊥
plain_not role h e = true≢false (sym (ap is_plain e) ∙ h)

kind_same : (a b : Kind) → same_kind a b ≡ true → a ≡ b
kind_same a b h = one_kind a b (eqb-true (kind_rank a) (kind_rank b) h)

same_true : (a b : Kind) → a ≡ b → same_kind a b ≡ true
same_true a b e = eq-eqb (kind_rank a) (kind_rank b) (ap kind_rank e)

module _ (s : Classes) (sheet : SheetData) (p : PlanData) (is : IsPlanOf s sheet p) (hold : IsUnbroken (BreaksReferenceRule s sheet.list)) where
  stated : (k : ℕ) → IsPlace p k → (r : Record) × (slice_get sheet.list k ≡ Some r) × StatesPlanRecord s sheet.list r (record_at p k)
  stated k h = zip_at (StatesPlanRecord s sheet.list) sheet.list p.list is.each k blank h

  there : (k : ℕ) (r : Record) → slice_get sheet.list k ≡ Some r → IsPlace p k × StatesPlanRecord s sheet.list r (record_at p k)
  there k r h = zip_back (StatesPlanRecord s sheet.list) sheet.list p.list is.each k r blank h

  at_place : (k : ℕ) (r : Record) → slice_get sheet.list k ≡ Some r → IsRecordAt s sheet.list (suc k) r
  at_place k r h = (omega arith, (let e : suc k - 1 ≡ k = omega arith in subst (λ j. slice_get sheet.list j ≡ Some r) (sym e) h))

  plan_kind : (k : ℕ) (r : Record) (kind : Kind) → slice_get sheet.list k ≡ Some r → r.kind ≡ kind → (record_at p k).kind ≡ kind
  plan_kind k r kind h e = (there k r h).1.kind ∙ e

  -- the two ends in the plan are those of the record
  in_order : (es : List EndData) (ps : List PlanEnd) (d e : EndData) (a x : ℕ) (j k : Kind) → es ≡ d ∷ e ∷ [] → AllZip (StatesPlanEnd sheet.list) es ps → Names s sheet.list d a j → Names s sheet.list e x k
      → map (λ (e : PlanEnd). e.target) ps ≡ a ∷ x ∷ []
  in_order es ps d e a x j k is all first second = go ps (subst (λ xs. AllZip (StatesPlanEnd sheet.list) xs ps) is all)
    where
      go : (ps : List PlanEnd) → AllZip (StatesPlanEnd sheet.list) (d ∷ e ∷ []) ps → map (λ (e : PlanEnd). e.target) ps ≡ a ∷ x ∷ []
      go [] all = absurd all
      go (p ∷ []) all = absurd all.1
      go (p ∷ q ∷ t ∷ ts) all = absurd all.1.1
      go (p ∷ q ∷ []) all =
          let m = same_Some _ _ (sym all.0.target ∙ first.1) in
          let n = same_Some _ _ (sym all.1.0.target ∙ second.1) in
          λ i. m i ∷ n i ∷ []

  -- a link of the plan joins if its record does, and that can be seen in the plan
  module _ (k : ℕ) (join : IsJoin p k) where
    at : (r : Record) × (slice_get sheet.list k ≡ Some r) × StatesPlanRecord s sheet.list r (record_at p k)
    at = stated k join.there

    joined : JoinsArcTo s sheet.list (beside (record_at p k).role) at.0 → JoinsArc p k
    joined d = record {
      arc = d.2;
      other = d.3;
      ends = ends d.4;
      is_arc = plan_kind d.2 d.5.0 Par d.5.2 d.5.3;
      is_beside = plan_kind d.3 d.6.0 (beside (record_at p k).role) d.6.2 d.6.3;
    }
      where
        ends : ((at.0.ends ≡ d.0 ∷ d.1 ∷ []) ⊎ (at.0.ends ≡ d.1 ∷ d.0 ∷ [])) → HasEnds p k d.2 d.3
        ends (inl e) = inl (in_order at.0.ends (record_at p k).ends d.0 d.1 d.2 d.3 Par (beside (record_at p k).role) e at.2.ends d.5 d.6)
        ends (inr e) = inr (in_order at.0.ends (record_at p k).ends d.1 d.0 d.3 d.2 (beside (record_at p k).role) Par e at.2.ends d.6 d.5)

    not_none : ¬ (¬ (JoinsArcTo s sheet.list (beside (record_at p k).role) at.0))
    not_none none = go (record_at p k).role refl join.not_plain none
      where
        go : (role : Role) → (record_at p k).role ≡ role → is_plain role ≡ false → ¬ (JoinsArcTo s sheet.list (beside role) at.0) → ⊥
        go Initial e h none = hold 306 (suc k) (joins_wrong refl (at.0, at_place k at.0 at.1, inl (inl (sym at.2.kind ∙ join.is_link, at.2.role ∙ ap Some e), none)))
        go Final e h none = hold 306 (suc k) (joins_wrong refl (at.0, at_place k at.0 at.1, inl (inr (sym at.2.kind ∙ join.is_link, at.2.role ∙ ap Some e), none)))
        go Left e h none = hold 306 (suc k) (joins_wrong refl (at.0, at_place k at.0 at.1, inr (inl (sym at.2.kind ∙ join.is_link, at.2.role ∙ ap Some e), none)))
        go Right e h none = hold 306 (suc k) (joins_wrong refl (at.0, at_place k at.0 at.1, inr (inr (sym at.2.kind ∙ join.is_link, at.2.role ∙ ap Some e), none)))
        go Plain e h none = cc

    both : (a x : ℕ) → HasEnds p k a x → (a_is : Bool) → same_kind (record_at p a).kind Par ≡ a_is → (x_is : Bool) → same_kind (record_at p x).kind (beside (record_at p k).role) ≡ x_is
        → JoinsArc p k ⊎ (((record_at p a).kind ≡ Par) × ((record_at p x).kind ≡ beside (record_at p k).role) → ⊥)
    both a x ends true e true f = inl (record { arc = a; other = x; ends = ends; is_arc = kind_same (record_at p a).kind Par e; is_beside = kind_same (record_at p x).kind (beside (record_at p k).role) f })
    both a x ends false e y f = inr (λ d. true≢false (sym (same_true (record_at p a).kind Par d.0) ∙ e))
    both a x ends true e false f = inr (λ d. true≢false (sym (same_true (record_at p x).kind (beside (record_at p k).role) d.1) ∙ f))

    tell : (a x : ℕ) → HasEnds p k a x → JoinsArc p k ⊎ (((record_at p a).kind ≡ Par) × ((record_at p x).kind ≡ beside (record_at p k).role) → ⊥)
    tell a x ends = both a x ends (same_kind (record_at p a).kind Par) refl (same_kind (record_at p x).kind (beside (record_at p k).role)) refl

    no_two : (ts : List ℕ) → targets (record_at p k) ≡ ts → ((a x : ℕ) → ts ≡ a ∷ x ∷ [] → ⊥) → ¬ (JoinsArc p k)
    no_two ts e none d = go d.ends
      where
        go : HasEnds p k d.arc d.other → ⊥
        go (inl f) = none d.arc d.other (sym e ∙ f)
        go (inr f) = none d.other d.arc (sym e ∙ f)

    pub joins : JoinsArc p k
    joins = by (targets (record_at p k)) refl
      where
        none : {P : Type 0} → ¬ (JoinsArc p k) → P
        none other = absurd (not_none (λ d. other (joined d)))

        by : (ts : List ℕ) → targets (record_at p k) ≡ ts → JoinsArc p k
        by [] e = none (no_two [] e (λ a x f. let l : 0 ≡ suc (suc 0) = ap length f in omega (arith, l)))
        by (t ∷ []) e = none (no_two (t ∷ []) e (λ a x f. let l : suc 0 ≡ suc (suc 0) = ap length f in omega (arith, l)))
        by (t ∷ u ∷ v ∷ ts) e = none (no_two (t ∷ u ∷ v ∷ ts) e (λ a x f. let l : suc (suc (suc (length ts))) ≡ suc (suc 0) = ap length f in omega (arith, l)))
        by (t ∷ u ∷ []) e = go (tell t u (inl e)) (tell u t (inr e))
          where
            other_way : (((record_at p t).kind ≡ Par) × ((record_at p u).kind ≡ beside (record_at p k).role) → ⊥) → (((record_at p u).kind ≡ Par) × ((record_at p t).kind ≡ beside (record_at p k).role) → ⊥) → ¬ (JoinsArc p k)
            other_way first second d = ends d.ends
              where
                ends : HasEnds p k d.arc d.other → ⊥
                ends (inl f) =
                    let same : t ∷ u ∷ [] ≡ d.arc ∷ d.other ∷ [] = sym e ∙ f in
                    let m : t ≡ d.arc = cc in
                    let n : u ≡ d.other = cc in
                    first (ap (λ j. (record_at p j).kind) m ∙ d.is_arc, ap (λ j. (record_at p j).kind) n ∙ d.is_beside)
                ends (inr f) =
                    let same : t ∷ u ∷ [] ≡ d.other ∷ d.arc ∷ [] = sym e ∙ f in
                    let m : t ≡ d.other = cc in
                    let n : u ≡ d.arc = cc in
                    second (ap (λ j. (record_at p j).kind) n ∙ d.is_arc, ap (λ j. (record_at p j).kind) m ∙ d.is_beside)

            go : JoinsArc p k ⊎ (((record_at p t).kind ≡ Par) × ((record_at p u).kind ≡ beside (record_at p k).role) → ⊥)
                → JoinsArc p k ⊎ (((record_at p u).kind ≡ Par) × ((record_at p t).kind ≡ beside (record_at p k).role) → ⊥) → JoinsArc p k
            go (inl d) other = d
            go (inr first) (inl d) = d
            go (inr first) (inr second) = none (other_way first second)

  -- the arc is named by an end of the record

  named_end : (e : EndData) (q : PlanEnd) (a : ℕ) → StatesPlanEnd sheet.list e q → q.target ≡ a → (record_at p a).kind ≡ Par → Names s sheet.list e a Par
  named_end e q a st is kind =
      let found = st.target ∙ ap Some is in
      let r = has_name sheet.list e.target a found in
      (r.0, found, r.1, sym (there a r.0 r.1).1.kind ∙ kind)

  arc_named : (es : List EndData) (ps : List PlanEnd) (a x : ℕ) → AllZip (StatesPlanEnd sheet.list) es ps → ((map (λ (e : PlanEnd). e.target) ps ≡ a ∷ x ∷ []) ⊎ (map (λ (e : PlanEnd). e.target) ps ≡ x ∷ a ∷ [])) → (record_at p a).kind ≡ Par
      → Any (λ e. Names s sheet.list e a Par) es
  arc_named [] [] a x all (inl e) kind = let l : 0 ≡ suc (suc 0) = ap length e in absurd (omega (arith, l))
  arc_named [] [] a x all (inr e) kind = let l : 0 ≡ suc (suc 0) = ap length e in absurd (omega (arith, l))
  arc_named [] (q ∷ qs) a x all ends kind = absurd all
  arc_named (d ∷ ds) [] a x all ends kind = absurd all
  arc_named (d ∷ ds) (q ∷ qs) a x all (inl e) kind = let m : q.target ≡ a = cc in any_here (λ e. Names s sheet.list e a Par) d ds (named_end d q a all.0 m kind)
  arc_named (d ∷ []) (q ∷ []) a x all (inr e) kind = let l : suc 0 ≡ suc (suc 0) = ap length e in absurd (omega (arith, l))
  arc_named (d ∷ []) (q ∷ u ∷ us) a x all (inr e) kind = absurd all.1
  arc_named (d ∷ f ∷ fs) (q ∷ []) a x all (inr e) kind = absurd all.1
  arc_named (d ∷ f ∷ fs) (q ∷ u ∷ us) a x all (inr e) kind = let m : u.target ≡ a = cc in any_later (λ e. Names s sheet.list e a Par) d (f ∷ fs) (any_here (λ e. Names s sheet.list e a Par) f fs (named_end f u a all.1.0 m kind))

  not_later : (j k a x y : ℕ) → IsJoin p j → IsJoin p k → (record_at p j).role ≡ (record_at p k).role → (record_at p a).kind ≡ Par → HasEnds p j a x → HasEnds p k a y → j < k → ⊥
  not_later j k a x y first second roles kind ends others less =
      let q = stated j first.there in
      let r = stated k second.there in
      hold 307 (suc k) (repeats_side refl (
        suc j,
        a,
        q.0,
        r.0,
        (record_at p k).role,
        omega arith,
        at_place j q.0 q.1,
        at_place k r.0 r.1,
        plain_not (record_at p k).role second.not_plain,
        (sym q.2.kind ∙ first.is_link, q.2.role ∙ ap Some roles),
        (sym r.2.kind ∙ second.is_link, r.2.role),
        arc_named q.0.ends (record_at p j).ends a x q.2.ends ends kind,
        arc_named r.0.ends (record_at p k).ends a y r.2.ends others kind,
      ))

  pub plans_joined : IsJoined p
  plans_joined = record { joins = joins; one_side = one_side }
    where
      one_side : (j k a x y : ℕ) → IsJoin p j → IsJoin p k → (record_at p j).role ≡ (record_at p k).role → (record_at p a).kind ≡ Par → HasEnds p j a x → HasEnds p k a y → j ≡ k
      one_side j k a x y first second roles kind ends others = go (cases_order j k)
        where
          go : (j ≡ k) ⊎ ((j < k) ⊎ (k < j)) → j ≡ k
          go (inl same) = same
          go (inr (inl less)) = absurd (not_later j k a x y first second roles kind ends others less)
          go (inr (inr more)) = absurd (not_later k j a y x second first (sym roles) kind others ends more)
