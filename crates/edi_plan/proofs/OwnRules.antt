-- The rules 302 to 306 as tests of one record.
use Rattle.std.proofs.Common.{◌≡◌, ◌≢◌, ℕ, suc, ◌-◌, ◌⊎◌, inl, inr, true, false, not, ◌&&◌, is_some, is_none, List, [], ◌∷◌, flat_map, Option, Some, None, option_map, slice_get, refl, sym, ap, ◌∙◌, subst, arith, Any, true≢false}
use Rattle.std.specs.List.{AllZip, list_any}
use Rattle.std.proofs.lemmas.Option.{same_Some}
use Rattle.std.proofs.lemmas.Bool.{not-true, and_parts}
use Rattle.edi_record.specs.LinkEnds.{EndData}
use Rattle.edi_record.specs.declared.record.Kind.{Kind}
use Rattle.edi_record.specs.declared.record.Kind.TheVariants.{Pno, Pfe, Lnk}
use Rattle.edi_record.specs.declared.record.Record.{Record}
use Rattle.edi_schema.specs.Classes.{Classes, place_of}
use Rattle.edi_schema.specs.Roles.{is_plain}
use Rattle.edi_schema.specs.declared.role.Role.{Role}
use Rattle.edi_schema.specs.declared.role.Role.TheVariants.{Initial, Final, Left, Right, Plain}
use Rattle.edi_plan.specs.inner.Done.{JoinsIn}
use Rattle.edi_plan.specs.Joined.{beside}
use Rattle.edi_plan.specs.Plans.{first_of}
use Rattle.edi_plan.specs.ReferenceRules.{HasUnknownClass, IsRecordAt, IsLinkOfRole, JoinsArcTo, JoinsWrong, LacksAttributeClass, LeavesSubset, Names, NamesNothing}
use Rattle.edi_plan.specs.inner.Resolving.{HasNoAttributeClass, lacks_class, is_elsewhere, leaves, first_subset, role_of_link}
use Rattle.edi_plan.specs.inner.SideTable.{link_join}
use Rattle.edi_plan.specs.inner.Targets.{IsTargetIfAny}
use Rattle.edi_plan.specs.declared.sides.Join.{Join}
use Rattle.edi_plan.specs.declared.targets.Target.{Target}
use Rattle.edi_plan.proofs.RuleLemmas.{none_is, any_true, true_any, zip_any, any_zip, lacks_true, true_lacks, nowhere, nowhere_true, elsewhere_true, true_elsewhere, names_join, join_names, link_has_role, role_is}

module _ (s : Classes) (list : List Record) (place : ℕ) (r : Record) (here : slice_get list place ≡ Some r) where
  at_here : (k : ℕ) → suc k - 1 ≡ k
  at_here k = omega arith

  pub is_at : IsRecordAt s list (suc place) r
  is_at = (omega arith, subst (λ k. slice_get list k ≡ Some r) (sym (at_here place)) here)

  pub one_record : (q : Record) → IsRecordAt s list (suc place) q → q ≡ r
  one_record q at = same_Some _ _ (sym (subst (λ k. slice_get list k ≡ Some q) (at_here place) at.1) ∙ here)

  pub to_302 : is_none (place_of s r.scp) ≡ true → HasUnknownClass s list (suc place)
  to_302 h = (r, is_at, none_is (place_of s r.scp) h)

  pub from_302 : HasUnknownClass s list (suc place) → is_none (place_of s r.scp) ≡ true
  from_302 d = ap is_none (ap (λ (q : Record). place_of s q.scp) (sym (one_record d.0 d.1)) ∙ d.2)

  pub to_303 : list_any (lacks_class s) r.attributes ≡ true → LacksAttributeClass s list (suc place)
  to_303 h = (r, is_at, true_any (HasNoAttributeClass s) (lacks_class s) (true_lacks s) r.attributes h)

  pub from_303 : LacksAttributeClass s list (suc place) → list_any (lacks_class s) r.attributes ≡ true
  from_303 d = any_true (HasNoAttributeClass s) (lacks_class s) (lacks_true s) r.attributes (subst (λ (q : Record). Any (HasNoAttributeClass s) q.attributes) (one_record d.0 d.1) d.2)

  pub to_304 : leaves (first_subset list) r.ends ≡ true → LeavesSubset s list (suc place)
  to_304 h = go (flat_map (λ q. q.ends) list) refl h
    where
      go : (es : List EndData) → flat_map (λ q. q.ends) list ≡ es → leaves (option_map (λ e. record { lot = e.lot; subset = e.subset }) (first_of es)) r.ends ≡ true → LeavesSubset s list (suc place)
      go [] e h = cc
      go (e ∷ es) is h = (r, e, es, is_at, is, true_any (λ d. (d.lot ≢ e.lot) ⊎ (d.subset ≢ e.subset)) (is_elsewhere (record { lot = e.lot; subset = e.subset })) (true_elsewhere e) r.ends h)

  pub from_304 : LeavesSubset s list (suc place) → leaves (first_subset list) r.ends ≡ true
  from_304 d =
      ap (λ es. leaves (option_map (λ e. record { lot = e.lot; subset = e.subset }) (first_of es)) r.ends) d.4
      ∙ any_true (λ x. (x.lot ≢ d.1.lot) ⊎ (x.subset ≢ d.1.subset)) (is_elsewhere (record { lot = d.1.lot; subset = d.1.subset })) (elsewhere_true d.1) r.ends
      (subst (λ (q : Record). Any (λ x. (x.lot ≢ d.1.lot) ⊎ (x.subset ≢ d.1.subset)) q.ends) (one_record d.0 d.3) d.5)

module _ (s : Classes) (list : List Record) (place : ℕ) (r : Record) (here : slice_get list place ≡ Some r) (own : List (Option Target)) (aimed : AllZip (IsTargetIfAny list) r.ends own) where
  abbrev role : Role
  role = role_of_link s r

  pub to_305 : list_any is_none own ≡ true → NamesNothing s list (suc place)
  to_305 h =
      let P : EndData → Type 0 = λ e. (place : ℕ) (kind : Kind) → Names s list e place kind → kind ≡ Lnk in
      (r, is_at s list place r here, zip_any (IsTargetIfAny list) P is_none (nowhere s list) r.ends own aimed h)

  pub from_305 : NamesNothing s list (suc place) → list_any is_none own ≡ true
  from_305 d =
      let P : EndData → Type 0 = λ e. (place : ℕ) (kind : Kind) → Names s list e place kind → kind ≡ Lnk in
      any_zip (IsTargetIfAny list) P is_none (nowhere_true s list) r.ends own aimed (subst (λ (q : Record). Any P q.ends) (one_record s list place r here d.0 d.1) d.2)

  joins_arc : (o : Role) → JoinsArcTo s list (beside o) r → (a : ℕ) × (x : ℕ) × JoinsIn s list r o a x
  joins_arc o d = (d.2, d.3, record { to_arc = d.0; to_other = d.1; ends = d.4; arc = d.5; other = d.6 })

  arc_joins : (o : Role) (a x : ℕ) → JoinsIn s list r o a x → JoinsArcTo s list (beside o) r
  arc_joins o a x d = (d.to_arc, d.to_other, a, x, d.ends, d.arc, d.other)

  no_join : (o : Role) → is_plain o ≡ false → link_join o own ≡ None → ¬ (JoinsArcTo s list (beside o) r)
  no_join o h none d =
      let j = joins_arc o d in
      let join : Join = record { arc = j.0; other = j.1 } in
      let some : link_join o own ≡ Some join = names_join s list r o own j.0 j.1 aimed h j.2 in
      true≢false (ap is_some (sym some) ∙ ap is_some none)

  pub to_306 : not (is_plain role) && is_none (link_join role own) ≡ true → JoinsWrong s list (suc place)
  to_306 h =
      let both = and_parts (not (is_plain role)) (is_none (link_join role own)) h in
      let kind = not-true (is_plain role) both.0 in
      go role kind (link_has_role s list r kind) (none_is (link_join role own) both.1)
    where
      go : (o : Role) → is_plain o ≡ false → IsLinkOfRole s list r o → link_join o own ≡ None → JoinsWrong s list (suc place)
      go Initial h has none = (r, is_at s list place r here, inl (inl has, no_join Initial h none))
      go Final h has none = (r, is_at s list place r here, inl (inr has, no_join Final h none))
      go Left h has none = (r, is_at s list place r here, inr (inl has, no_join Left h none))
      go Right h has none = (r, is_at s list place r here, inr (inr has, no_join Right h none))
      go Plain h has none = cc

  wrong : (o : Role) → is_plain o ≡ false → IsLinkOfRole s list r o → ¬ (JoinsArcTo s list (beside o) r) → not (is_plain role) && is_none (link_join role own) ≡ true
  wrong o h has other =
      let same = role_is s list r o has in
      ap (λ p. not (is_plain p) && is_none (link_join p own)) same ∙ (ap (λ b. not b && is_none (link_join o own)) h ∙ go (link_join o own) refl)
    where
      go : (j : Option Join) → link_join o own ≡ j → is_none j ≡ true
      go None e = refl
      go (Some j) e = absurd (other (arc_joins o j.arc j.other (join_names s list r o own j aimed h e)))

  pub from_306 : JoinsWrong s list (suc place) → not (is_plain role) && is_none (link_join role own) ≡ true
  from_306 d = go d.0 (one_record s list place r here d.0 d.1) d.2
    where
      go : (q : Record) → q ≡ r → (((IsLinkOfRole s list q Initial ⊎ IsLinkOfRole s list q Final) × ¬ (JoinsArcTo s list Pno q)) ⊎ ((IsLinkOfRole s list q Left ⊎ IsLinkOfRole s list q Right) × ¬ (JoinsArcTo s list Pfe q)))
          → not (is_plain role) && is_none (link_join role own) ≡ true
      go q e (inl (inl has, other)) = wrong Initial refl (subst (λ t. IsLinkOfRole s list t Initial) e has) (subst (λ t. ¬ (JoinsArcTo s list Pno t)) e other)
      go q e (inl (inr has, other)) = wrong Final refl (subst (λ t. IsLinkOfRole s list t Final) e has) (subst (λ t. ¬ (JoinsArcTo s list Pno t)) e other)
      go q e (inr (inl has, other)) = wrong Left refl (subst (λ t. IsLinkOfRole s list t Left) e has) (subst (λ t. ¬ (JoinsArcTo s list Pfe t)) e other)
      go q e (inr (inr has, other)) = wrong Right refl (subst (λ t. IsLinkOfRole s list t Right) e has) (subst (λ t. ¬ (JoinsArcTo s list Pfe t)) e other)
