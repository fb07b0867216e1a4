-- The links of a side, in the plan and among the records.
use Rattle.std.proofs.Common.{◌≡◌, ◌≢◌, ◌∙◌, ◌+◌, ◌-◌, ◌<◌, ℕ, true, add-one, List, [], ◌∷◌, zero, suc, take, get_or, Option, Some, sym, ap, subst, arith, slice_get, Any}
use Rattle.std.specs.List.{AllZip}
use Rattle.std.proofs.lemmas.Option.{get_or_from_slice_get, slice_get-get_or, slice_get_within, same_Some}
use Rattle.edi_record.specs.LinkEnds.{EndData}
use Rattle.edi_record.specs.declared.record.Kind.TheVariants.{Par}
use Rattle.edi_record.specs.declared.record.Record.{Record}
use Rattle.edi_schema.specs.Classes.{Classes, role_named}
use Rattle.edi_schema.specs.declared.role.Role.{Role}
use Rattle.edi_schema.specs.declared.role.Role.TheVariants.{Plain}
use Rattle.edi_plan.specs.EarlierLinks.{IsLeastIfAny, SharesSide}
use Rattle.edi_plan.specs.PlanOf.{StatesPlanEnd, StatesPlanRecord}
use Rattle.edi_plan.specs.Plans.{blank}
use Rattle.edi_plan.specs.ReferenceRules.{BreaksReferenceRule, IsLinkOfRole, Names}
use Rattle.edi_plan.specs.ReferenceRules.BreaksReferenceRule.{repeats_name, lacks_class, lacks_attribute_class, leaves_subset, names_nothing, joins_wrong, repeats_side}
use Rattle.edi_plan.specs.inner.EarlierLinks.{ends_at_place, IsOfSideAt}
use Rattle.edi_plan.specs.inner.Findings.{is_arc_at}
use Rattle.edi_plan.specs.inner.Resolving.{role_of_link}
use Rattle.edi_plan.specs.inner.Targets.{IsTargetIfAny}
use Rattle.edi_plan.specs.declared.record.PlanEnd.{PlanEnd}
use Rattle.edi_plan.specs.declared.record.PlanRecord.{PlanRecord}
use Rattle.edi_plan.specs.declared.targets.Target.{Target}
use Rattle.edi_plan.proofs.Built.{zip_at, zip_back}
use Rattle.edi_plan.proofs.FindingLemmas.{arc_named, named_arc}
use Rattle.edi_plan.proofs.Leasts.{least_as}
use Rattle.edi_plan.proofs.OwnRules.{one_record}
use Rattle.edi_plan.proofs.RuleLemmas.{any_zip, role_is, zip_any}

taken_at : {X : Type 0} (xs : List X) (n k : ℕ) (x : X) → slice_get (take n xs) k ≡ Some x → (k < n) × (slice_get xs k ≡ Some x)
taken_at xs zero k x at = absurd cc
taken_at [] (suc n) k x at = absurd cc
taken_at (y ∷ ys) (suc n) zero x at = (omega arith, at)
taken_at (y ∷ ys) (suc n) (suc k) x at = let later = taken_at ys n k x at in (omega (arith, later.0), later.1)

take_at_place : {X : Type 0} (xs : List X) (n k : ℕ) (x : X) → k < n → slice_get xs k ≡ Some x → slice_get (take n xs) k ≡ Some x
take_at_place xs zero k x less at = absurd (omega (arith, less))
take_at_place [] (suc n) k x less at = at
take_at_place (y ∷ ys) (suc n) zero x less at = at
take_at_place (y ∷ ys) (suc n) (suc k) x less at = take_at_place ys n k x (omega (arith, less)) at

module _ (s : Classes) (list : List Record) (e : EndData) (t : Option Target) (is : IsTargetIfAny list e t) (ds : List EndData) (fs : List PlanEnd) (states : AllZip (StatesPlanEnd list) ds fs) where
  -- an arc that an end and one of others name
  abbrev pub IsShared : Type 0
  IsShared = (a : ℕ) × Names s list e a Par × Any (λ d. Names s list d a Par) ds

  arc_shared : ends_at_place fs t ≡ true → IsShared
  arc_shared h =
      let found =
      zip_any (StatesPlanEnd list) (λ d. (a : ℕ) × Names s list e a Par × Names s list d a Par) (λ (f : PlanEnd). is_arc_at f.target t)
      (λ d f state yes. let named = arc_named s list f.target e t is yes in (f.target, named, (named.0, state.target, named.2, named.3))) ds fs states h in
      (found.4.0, found.4.1, (found.0, found.1, found.2, found.3, found.4.2))

  shared_arc : (a : ℕ) → Names s list e a Par → Any (λ d. Names s list d a Par) ds → ends_at_place fs t ≡ true
  shared_arc a named any =
      any_zip (StatesPlanEnd list) (λ d. Names s list d a Par) (λ (f : PlanEnd). is_arc_at f.target t)
      (λ d f state other. ap (λ n. is_arc_at n t) (same_Some _ _ (sym state.target ∙ other.1)) ∙ named_arc s list a e t is named) ds fs states any

module _ (s : Classes) (list : List Record) (place : ℕ) (r : Record) (here : slice_get list place ≡ Some r) (own : List (Option Target)) (aimed : AllZip (IsTargetIfAny list) r.ends own)
    (planned : List PlanRecord) (stated : AllZip (StatesPlanRecord s list) (take place list) planned) (role : Role) (proper : role ≢ Plain) (is : IsLinkOfRole s list r role) where
  pub of_side : (k : ℕ) → IsOfSideAt planned role own k → SharesSide s list place k
  of_side k d =
      let p = d.0 in
      let q = zip_at (StatesPlanRecord s list) (take place list) planned stated k p (slice_get_within planned k p d.1) in
      let states = subst (StatesPlanRecord s list q.0) (get_or_from_slice_get planned k p p d.1) q.2 in
      let there = taken_at list place k q.0 q.1 in
      let arc = zip_any (IsTargetIfAny list) (λ e. (a : ℕ) × Names s list e a Par × Any (λ d. Names s list d a Par) q.0.ends) (ends_at_place p.ends) (λ e t aim. arc_shared s list e t aim q.0.ends p.ends states.ends) r.ends own aimed d.2.2 in
      (q.0, r, role, there.0, there.1, here, proper, (sym states.kind ∙ d.2.0, states.role ∙ ap Some d.2.1), is, (arc.4.0, arc.4.2, (arc.0, arc.1, arc.2, arc.3, arc.4.1)))

  pub side_of : (k : ℕ) → SharesSide s list place k → IsOfSideAt planned role own k
  side_of k h =
      let here_is : h.1 ≡ r = same_Some _ _ (sym h.5 ∙ here) in
      let one : h.2 ≡ role = same_Some _ _ (sym h.8.1 ∙ (ap (λ (x : Record). role_named s x.scp) here_is ∙ is.1)) in
      let p = get_or planned k blank in
      let there = zip_back (StatesPlanRecord s list) (take place list) planned stated k h.0 blank (take_at_place list place k h.0 h.3 h.4) in
      let states = there.1 in (
        p,
        slice_get-get_or planned k blank there.0,
        (
          states.kind ∙ h.7.0,
          same_Some _ _ (sym states.role ∙ (h.7.1 ∙ ap Some one)),
          any_zip (IsTargetIfAny list) (λ e. Names s list e h.9.0 Par) (ends_at_place p.ends) (λ e t aim named. shared_arc s list e t aim h.0.ends p.ends states.ends h.9.0 named h.9.1) r.ends own aimed
              (subst (λ (x : Record). Any (λ e. Names s list e h.9.0 Par) x.ends) here_is h.9.2),
        ),
      )

module _ (s : Classes) (list : List Record) (place : ℕ) (r : Record) (here : slice_get list place ≡ Some r) (own : List (Option Target)) (aimed : AllZip (IsTargetIfAny list) r.ends own)
    (planned : List PlanRecord) (stated : AllZip (StatesPlanRecord s list) (take place list) planned) where
  -- the first link of the side where the record breaks 307
  pub link_found : (rule : ℕ) → rule ≡ 307 → BreaksReferenceRule s list rule (place + 1) → (found : Option ℕ) → IsLeastIfAny (IsOfSideAt planned (role_of_link s r) own) found → IsLeastIfAny (SharesSide s list (place + 1 - 1)) found
  link_found rule is broken found least = go (subst (BreaksReferenceRule s list rule) (add-one place) broken)
    where
      same_place : place ≡ place + 1 - 1
      same_place = omega arith

      go : BreaksReferenceRule s list rule (suc place) → IsLeastIfAny (SharesSide s list (place + 1 - 1)) found
      go (repeats_side e d) =
          let has = subst (λ (t : Record). IsLinkOfRole s list t d.4) (one_record s list place r here d.3 d.7) d.10 in
          let role : role_of_link s r ≡ d.4 = role_is s list r d.4 has in
          let proper : role_of_link s r ≢ Plain = λ e. d.8 (sym role ∙ e) in
          let link = subst (IsLinkOfRole s list r) (sym role) has in
          subst (λ n. IsLeastIfAny (SharesSide s list n) found) same_place
          (least_as (IsOfSideAt planned (role_of_link s r) own) (SharesSide s list place)
          (of_side s list place r here own aimed planned stated (role_of_link s r) proper link) (side_of s list place r here own aimed planned stated (role_of_link s r) proper link) found least)
      go (repeats_name e d) = absurd (omega (arith, e, is))
      go (lacks_class e d) = absurd (omega (arith, e, is))
      go (lacks_attribute_class e d) = absurd (omega (arith, e, is))
      go (leaves_subset e d) = absurd (omega (arith, e, is))
      go (names_nothing e d) = absurd (omega (arith, e, is))
      go (joins_wrong e d) = absurd (omega (arith, e, is))
