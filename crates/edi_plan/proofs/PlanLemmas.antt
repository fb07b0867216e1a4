-- The plan of records that break no rule, and the table of its arcs.
use Rattle.std.proofs.Common.{◌≡◌, ℕ, suc, ◌-◌, ◌<◌, ◌≤◌, ◌⊎◌, inl, inr, List, [], ◌∷◌, length, map, Option, Some, None, slice_get, refl, sym, ap, ◌∙◌, subst, arith, false, true≢false}
use Rattle.std.specs.List.{AllZip}
use Rattle.std.proofs.lemmas.Option.{slice_get_within, same_Some}
use Rattle.edi_line.specs.Refusal.{IsUnbroken}
use Rattle.edi_record.specs.LinkEnds.{EndData}
use Rattle.edi_record.specs.declared.record.Kind.{Kind}
use Rattle.edi_record.specs.declared.record.Kind.TheVariants.{Par}
use Rattle.edi_record.specs.declared.record.Record.{Record}
use Rattle.edi_record.specs.Records.{SheetData}
use Rattle.edi_schema.specs.Classes.{Classes}
use Rattle.edi_schema.specs.Roles.{is_plain}
use Rattle.edi_schema.specs.declared.role.Role.{Role}
use Rattle.edi_schema.specs.declared.role.Role.TheVariants.{Initial, Final, Left, Right, Plain}
use Rattle.edi_plan.specs.inner.Done.{JoinsIn, IsLinkAt, JoinsBefore, IsJoinIfAny, IsDone}
use Rattle.edi_plan.specs.Joined.{beside}
use Rattle.edi_plan.specs.PlanOf.{IsPlanOf, StatesPlanEnd, StatesPlanRecord}
use Rattle.edi_plan.specs.Plans.{PlanData, IsPlace, record_at, blank}
use Rattle.edi_plan.specs.ReferenceRules.{BreaksReferenceRule, Names}
use Rattle.edi_plan.specs.ReferenceRules.BreaksReferenceRule.{repeats_name, lacks_class, lacks_attribute_class, leaves_subset, names_nothing, joins_wrong, repeats_side}
use Rattle.edi_plan.specs.Sides.{Side, IsSideIfAny, targets}
use Rattle.edi_plan.specs.inner.SideTable.{AreSides, side_at}
use Rattle.edi_plan.specs.declared.record.PlanEnd.{PlanEnd}
use Rattle.edi_schema.specs.declared.by_role.ByRole.{ByRole}
use Rattle.edi_plan.proofs.Built.{zip_at, zip_back, zip_length}

within : (s : Classes) (list : List Record) (rule at : ℕ) → BreaksReferenceRule s list rule at → (1 ≤ at) × (at ≤ length list)
within s list rule at (repeats_name e d) = let l = slice_get_within list (at - 1) d.2 d.5.1 in (d.5.0, omega (arith, d.5.0, l))
within s list rule at (lacks_class e d) = let l = slice_get_within list (at - 1) d.0 d.1.1 in (d.1.0, omega (arith, d.1.0, l))
within s list rule at (lacks_attribute_class e d) = let l = slice_get_within list (at - 1) d.0 d.1.1 in (d.1.0, omega (arith, d.1.0, l))
within s list rule at (leaves_subset e d) = let l = slice_get_within list (at - 1) d.0 d.3.1 in (d.3.0, omega (arith, d.3.0, l))
within s list rule at (names_nothing e d) = let l = slice_get_within list (at - 1) d.0 d.1.1 in (d.1.0, omega (arith, d.1.0, l))
within s list rule at (joins_wrong e d) = let l = slice_get_within list (at - 1) d.0 d.1.1 in (d.1.0, omega (arith, d.1.0, l))
within s list rule at (repeats_side e d) = let l = slice_get_within list (at - 1) d.3 d.7.1 in (d.7.0, omega (arith, d.7.0, l))

pub all_unbroken : (s : Classes) (list : List Record) (table : List (ByRole (Option ℕ))) → IsDone s list (length list) table → IsUnbroken (BreaksReferenceRule s list)
all_unbroken s list table done rule at h =
    let l = within s list rule at h in
    let e : at ≡ suc (at - 1) = omega (arith, l.0) in
    done.unbroken (at - 1) rule (omega (arith, l.0, l.1)) (subst (BreaksReferenceRule s list rule) e h)

module _ (s : Classes) (sheet : SheetData) (p : PlanData) (is : IsPlanOf s sheet p) (table : List (ByRole (Option ℕ))) (done : IsDone s sheet.list (length sheet.list) table) where
  long : length sheet.list ≡ length p.list
  long = zip_length (StatesPlanRecord s sheet.list) sheet.list p.list is.each

  stated : (k : ℕ) → IsPlace p k → (r : Record) × (slice_get sheet.list k ≡ Some r) × StatesPlanRecord s sheet.list r (record_at p k)
  stated k h = zip_at (StatesPlanRecord s sheet.list) sheet.list p.list is.each k blank h

  there : (k : ℕ) (r : Record) → slice_get sheet.list k ≡ Some r → IsPlace p k × StatesPlanRecord s sheet.list r (record_at p k)
  there k r h = zip_back (StatesPlanRecord s sheet.list) sheet.list p.list is.each k r blank h

  two_targets : (es : List EndData) (ps : List PlanEnd) (d e : EndData) (a x : ℕ) (j k : Kind) → es ≡ d ∷ e ∷ [] → AllZip (StatesPlanEnd sheet.list) es ps → Names s sheet.list d a j → Names s sheet.list e x k → map (λ (e : PlanEnd). e.target) ps ≡ a ∷ x ∷ []
  two_targets es ps d e a x j k is all first second = go ps (subst (λ xs. AllZip (StatesPlanEnd sheet.list) xs ps) is all)
    where
      go : (ps : List PlanEnd) → AllZip (StatesPlanEnd sheet.list) (d ∷ e ∷ []) ps → map (λ (e : PlanEnd). e.target) ps ≡ a ∷ x ∷ []
      go [] all = absurd all
      go (p ∷ []) all = absurd all.1
      go (p ∷ q ∷ t ∷ ts) all = absurd all.1.1
      go (p ∷ q ∷ []) all =
          let m = same_Some _ _ (sym all.0.target ∙ first.1) in
          let n = same_Some _ _ (sym all.1.0.target ∙ second.1) in
          λ i. m i ∷ n i ∷ []

  pub join_side : (a : ℕ) (role : Role) (x : ℕ) → is_plain role ≡ false → JoinsBefore s sheet.list (length sheet.list) a role x → Side p a role x
  join_side a role x h d =
      let link = there d.at d.link d.is_link.here in
      let arc = there a d.joins.arc.0 d.joins.arc.2 in
      record {
        link = d.at;
        there = link.0;
        is_link = link.1.kind ∙ d.is_link.has_role.0;
        has_role = same_Some _ _ (sym link.1.role ∙ d.is_link.has_role.1);
        not_plain = λ e. true≢false (sym (ap is_plain e) ∙ h);
        arc_there = arc.0;
        is_arc = arc.1.kind ∙ d.joins.arc.3;
        ends = ends d.joins.ends link.1.ends;
      }
    where
      ends : ((d.link.ends ≡ d.joins.to_arc ∷ d.joins.to_other ∷ []) ⊎ (d.link.ends ≡ d.joins.to_other ∷ d.joins.to_arc ∷ [])) → AllZip (StatesPlanEnd sheet.list) d.link.ends (record_at p d.at).ends
          → (targets (record_at p d.at) ≡ a ∷ x ∷ []) ⊎ (targets (record_at p d.at) ≡ x ∷ a ∷ [])
      ends (inl e) all = inl (two_targets d.link.ends (record_at p d.at).ends d.joins.to_arc d.joins.to_other a x Par (beside role) e all d.joins.arc d.joins.other)
      ends (inr e) all = inr (two_targets d.link.ends (record_at p d.at).ends d.joins.to_other d.joins.to_arc x a (beside role) Par e all d.joins.other d.joins.arc)

  kind_other : (o : Role) → is_plain o ≡ false → Par ≡ beside o → ⊥
  kind_other Initial h e = cc
  kind_other Final h e = cc
  kind_other Left h e = cc
  kind_other Right h e = cc
  kind_other Plain h e = cc

  heads : (a b x y : ℕ) → a ∷ x ∷ [] ≡ b ∷ y ∷ [] → (a ≡ b) × (x ≡ y)
  heads a b x y e = (cc, cc)

  pub side_join : (a : ℕ) (role : Role) (x : ℕ) → is_plain role ≡ false → Side p a role x → JoinsBefore s sheet.list (length sheet.list) a role x
  side_join a role x h side =
      let at = stated side.link side.there in
      let link : IsLinkAt s sheet.list side.link at.0 role = record { here = at.1; has_role = (sym at.2.kind ∙ side.is_link, at.2.role ∙ ap Some side.has_role); not_plain = h } in
      let less : side.link < length sheet.list = omega (arith, side.there, long) in
      let j = done.joined side.link at.0 role less link in
      let same = ends at.0 j.0 j.1 j.2 at.2.ends in
      record { at = side.link; link = at.0; before = less; is_link = link; joins = subst (λ b. JoinsIn s sheet.list at.0 role b x) same.0 (subst (JoinsIn s sheet.list at.0 role j.0) same.1 j.2) }
    where
      other_arc : (r : Record) (b y : ℕ) → JoinsIn s sheet.list r role b y → y ≡ a → ⊥
      other_arc r b y d e =
          let at = there y d.other.0 d.other.2 in
          kind_other role h (sym side.is_arc ∙ (ap (λ k. (record_at p k).kind) (sym e) ∙ (at.1.kind ∙ d.other.3)))

      ends : (r : Record) (b y : ℕ) (d : JoinsIn s sheet.list r role b y) → AllZip (StatesPlanEnd sheet.list) r.ends (record_at p side.link).ends → (b ≡ a) × (y ≡ x)
      ends r b y d all = go d.ends side.ends
        where
          go : ((r.ends ≡ d.to_arc ∷ d.to_other ∷ []) ⊎ (r.ends ≡ d.to_other ∷ d.to_arc ∷ [])) → ((targets (record_at p side.link) ≡ a ∷ x ∷ []) ⊎ (targets (record_at p side.link) ≡ x ∷ a ∷ [])) → (b ≡ a) × (y ≡ x)
          go (inl e) (inl f) = heads b a y x (sym (two_targets r.ends (record_at p side.link).ends d.to_arc d.to_other b y Par (beside role) e all d.arc d.other) ∙ f)
          go (inl e) (inr f) = absurd (other_arc r b y d (heads b x y a (sym (two_targets r.ends (record_at p side.link).ends d.to_arc d.to_other b y Par (beside role) e all d.arc d.other) ∙ f)).1)
          go (inr e) (inl f) = absurd (other_arc r b y d (heads y a b x (sym (two_targets r.ends (record_at p side.link).ends d.to_other d.to_arc y b (beside role) Par e all d.other d.arc) ∙ f)).0)
          go (inr e) (inr f) = let both = heads y x b a (sym (two_targets r.ends (record_at p side.link).ends d.to_other d.to_arc y b (beside role) Par e all d.other d.arc) ∙ f) in (both.1, both.0)

  pub sides_of : AreSides p table
  sides_of = record { long = done.long ∙ long; each = λ a role. each a role }
    where
      any : (a : ℕ) (role : Role) → is_plain role ≡ false → (o : Option ℕ) → IsJoinIfAny s sheet.list (length sheet.list) a role o → IsSideIfAny p a role o
      any a role h None none = λ x side. none x (side_join a role x h side)
      any a role h (Some x) join = join_side a role x h join

      each : (a : ℕ) (role : Role) → IsSideIfAny p a role (side_at table a role)
      each a Initial = any a Initial refl (side_at table a Initial) (done.noted a Initial refl)
      each a Final = any a Final refl (side_at table a Final) (done.noted a Final refl)
      each a Left = any a Left refl (side_at table a Left) (done.noted a Left refl)
      each a Right = any a Right refl (side_at table a Right) (done.noted a Right refl)
      each a Plain = λ x side. side.not_plain refl
