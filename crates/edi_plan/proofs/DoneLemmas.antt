-- The records of a sheet, one on.
use Rattle.std.proofs.Common.{◌≡◌, ℕ, zero, suc, ◌+◌, ◌-◌, ◌<◌, ◌≤◌, ◌⊎◌, inl, inr, Bool, true, false, cond, not, ◌&&◌, is_some, is_none, List, [], ◌∷◌, Option, Some, None, nat_eq, slice_get, refl, sym, ap, ◌∙◌, subst, arith, Any, true≢false, eqb-true, eq-eqb}
use Rattle.std.specs.List.{AllZip}
use Rattle.std.proofs.lemmas.Bool.{cases_lt, and_parts}
use Rattle.std.proofs.lemmas.Option.{same_Some}
use Rattle.edi_line.specs.Refusal.{BreaksTest, IsLeastBroken}
use Rattle.edi_line.specs.inner.Refusal.{first_broken}
use Rattle.edi_line.proofs.FirstBroken.{none_broken, first_is_least}
use Rattle.edi_line.proofs.EachElement.{any_here, any_later}
use Rattle.edi_record.specs.LinkEnds.{EndData}
use Rattle.edi_record.specs.declared.record.Kind.TheVariants.{Par}
use Rattle.edi_record.specs.declared.record.Record.{Record}
use Rattle.edi_schema.specs.Classes.{Classes}
use Rattle.edi_schema.specs.Roles.{is_plain, same_role, role_rank}
use Rattle.edi_schema.specs.declared.role.Role.{Role}
use Rattle.edi_schema.specs.declared.role.Role.TheVariants.{Initial, Final, Left, Right, Plain}
use Rattle.edi_plan.specs.inner.Done.{JoinsIn, IsLinkAt, JoinsBefore, IsJoinIfAny, IsDone}
use Rattle.edi_plan.specs.Joined.{beside}
use Rattle.edi_plan.specs.inner.Names.{RepeatsNameAt}
use Rattle.edi_plan.specs.ReferenceRules.{IsRecordAt, Names, IsLinkOfRole, RepeatsSide, BreaksReferenceRule}
use Rattle.edi_plan.specs.ReferenceRules.BreaksReferenceRule.{repeats_name, lacks_class, lacks_attribute_class, leaves_subset, names_nothing, joins_wrong, repeats_side}
use Rattle.edi_plan.specs.inner.Resolving.{first_subset, role_of_link, reference_tests}
use Rattle.edi_plan.specs.inner.SideTable.{side_at, side_after, link_join, is_taken, IsNoted}
use Rattle.edi_plan.specs.inner.Targets.{IsTargetIfAny}
use Rattle.edi_schema.specs.declared.by_role.ByRole.{ByRole}
use Rattle.edi_schema.proofs.RoleTests.{not_plain, is_plain_not, one_role}
use Rattle.edi_plan.specs.declared.sides.Join.{Join}
use Rattle.edi_plan.specs.declared.targets.Target.{Target}
use Rattle.edi_plan.proofs.OwnRules.{to_302, from_302, to_303, from_303, to_304, from_304, to_305, from_305, to_306, from_306}
use Rattle.edi_plan.proofs.RuleLemmas.{names_join, join_names, link_has_role, role_is, any_two}

module _ (s : Classes) (list : List Record) (place : ℕ) (r : Record) (here : slice_get list place ≡ Some r) (own : List (Option Target)) (aimed : AllZip (IsTargetIfAny list) r.ends own)
    (table : List (ByRole (Option ℕ))) (before : IsDone s list place table) where
  abbrev role : Role
  role = role_of_link s r

  at_here : (k : ℕ) → suc k - 1 ≡ k
  at_here k = omega arith

  is_at : IsRecordAt s list (suc place) r
  is_at = Rattle.edi_plan.proofs.OwnRules.is_at s list place r here

  one_record : (q : Record) → IsRecordAt s list (suc place) q → q ≡ r
  one_record = Rattle.edi_plan.proofs.OwnRules.one_record s list place r here

  link_at : (k : ℕ) (q : Record) (o : Role) → IsLinkAt s list k q o → IsRecordAt s list (suc k) q
  link_at k q o d = (omega arith, subst (λ j. slice_get list j ≡ Some q) (sym (at_here k)) d.here)

  -- the arc that an end of a joining link names is the one that it joins
  one_arc : (q : Record) (o : Role) (a x b : ℕ) → is_plain o ≡ false → JoinsIn s list q o a x → Any (λ e. Names s list e b Par) q.ends → b ≡ a
  one_arc q o a x b h d any = go d.ends
    where
      arc : Names s list d.to_arc b Par → b ≡ a
      arc names = same_Some _ _ (sym names.1 ∙ d.arc.1)

      kind_other : (o : Role) → is_plain o ≡ false → Par ≡ beside o → ⊥
      kind_other Initial h e = cc
      kind_other Final h e = cc
      kind_other Left h e = cc
      kind_other Right h e = cc
      kind_other Plain h e = cc

      other : Names s list d.to_other b Par → b ≡ a
      other names =
          let places : b ≡ x = same_Some _ _ (sym names.1 ∙ d.other.1) in
          let records : names.0 ≡ d.other.0 = same_Some _ _ (sym names.2 ∙ (ap (slice_get list) places ∙ d.other.2)) in
          absurd (kind_other o h (sym names.3 ∙ (ap (λ (t : Record). t.kind) records ∙ d.other.3)))

      by : Names s list d.to_arc b Par ⊎ Names s list d.to_other b Par → b ≡ a
      by (inl n) = arc n
      by (inr n) = other n

      go : ((q.ends ≡ d.to_arc ∷ d.to_other ∷ []) ⊎ (q.ends ≡ d.to_other ∷ d.to_arc ∷ [])) → b ≡ a
      go (inl e) = by (any_two (λ e. Names s list e b Par) d.to_arc d.to_other (subst (λ (es : List EndData). Any (λ e. Names s list e b Par) es) e any))
      go (inr e) = by (Rattle.edi_plan.proofs.RuleLemmas.turned (any_two (λ e. Names s list e b Par) d.to_other d.to_arc (subst (λ (es : List EndData). Any (λ e. Names s list e b Par) es) e any)))

  arc_there : (q : Record) (o : Role) (a x : ℕ) → JoinsIn s list q o a x → Any (λ e. Names s list e a Par) q.ends
  arc_there q o a x d = go d.ends
    where
      go : ((q.ends ≡ d.to_arc ∷ d.to_other ∷ []) ⊎ (q.ends ≡ d.to_other ∷ d.to_arc ∷ [])) → Any (λ e. Names s list e a Par) q.ends
      go (inl e) = subst (λ (es : List EndData). Any (λ e. Names s list e a Par) es) (sym e) (any_here (λ e. Names s list e a Par) d.to_arc (d.to_other ∷ []) d.arc)
      go (inr e) = subst (λ (es : List EndData). Any (λ e. Names s list e a Par) es) (sym e) (any_later (λ e. Names s list e a Par) d.to_other (d.to_arc ∷ []) (any_here (λ e. Names s list e a Par) d.to_arc [] d.arc))

  -- ---- each test is its rule

  join_kind : (j : Join) → link_join role own ≡ Some j → is_plain role ≡ false
  join_kind j e = go role e
    where
      go : (o : Role) → link_join o own ≡ Some j → is_plain o ≡ false
      go Initial e = refl
      go Final e = refl
      go Left e = refl
      go Right e = refl
      go Plain e = cc

  to_307 : is_taken table role (link_join role own) ≡ true → RepeatsSide s list (suc place)
  to_307 h = go (link_join role own) refl h
    where
      go : (o : Option Join) → link_join role own ≡ o → is_taken table role o ≡ true → RepeatsSide s list (suc place)
      go None e h = cc
      go (Some j) e h =
          let kind = join_kind j e in
          by (side_at table j.arc role) h (before.noted j.arc role kind)
        where
          by : (o : Option ℕ) → is_some o ≡ true → IsJoinIfAny s list place j.arc role o → RepeatsSide s list (suc place)
          by None h d = cc
          by (Some x) h d =
              let kind = join_kind j e in (
                suc d.at,
                j.arc,
                d.link,
                r,
                role,
                (let less = d.before in omega (arith, less)),
                link_at d.at d.link role d.is_link,
                is_at,
                not_plain role kind,
                d.is_link.has_role,
                link_has_role s list r kind,
                arc_there d.link role j.arc x d.joins,
                arc_there r role j.arc j.other (join_names s list r role own j aimed kind e),
              )

  -- a side of an arc that an earlier link has, where this link joins
  taken : RepeatsSide s list (suc place) → (j : Join) → link_join role own ≡ Some j → is_taken table role (link_join role own) ≡ true
  taken d j e =
      let kind = join_kind j e in
      let has = subst (λ t. IsLinkOfRole s list t d.4) (one_record d.3 d.7) d.10 in
      let same : role ≡ d.4 = role_is s list r d.4 has in
      let arc : d.1 ≡ j.arc = one_arc r role j.arc j.other d.1 kind (join_names s list r role own j aimed kind e) (subst (λ (t : Record). Any (λ e. Names s list e d.1 Par) t.ends) (one_record d.3 d.7) d.12) in
      let q_at : IsLinkAt s list (d.0 - 1) d.2 role = record { here = d.6.1; has_role = subst (IsLinkOfRole s list d.2) (sym same) d.9; not_plain = kind } in
      let low : d.0 - 1 < place = omega (arith, d.5, d.6.0) in
      let q_joins = before.joined (d.0 - 1) d.2 role low q_at in
      let q_arc : d.1 ≡ q_joins.0 = one_arc d.2 role q_joins.0 q_joins.1 d.1 kind q_joins.2 d.11 in
      let there : JoinsBefore s list place j.arc role q_joins.1 = record { at = d.0 - 1; link = d.2; before = low; is_link = q_at; joins = subst (λ a. JoinsIn s list d.2 role a q_joins.1) (sym q_arc ∙ arc) q_joins.2 } in
      ap (is_taken table role) e ∙ some_side (side_at table j.arc role) (before.noted j.arc role kind) q_joins.1 there
    where
      some_side : (o : Option ℕ) → IsJoinIfAny s list place j.arc role o → (x : ℕ) → JoinsBefore s list place j.arc role x → is_some o ≡ true
      some_side (Some y) h x there = refl
      some_side None h x there = absurd (h x there)

  pub test_breaks : (rule : ℕ) → BreaksTest (reference_tests s (first_subset list) own table r) rule → BreaksReferenceRule s list rule (suc place)
  test_breaks rule (inl (e, h)) = lacks_class (sym e) (to_302 s list place r here h)
  test_breaks rule (inr (inl (e, h))) = lacks_attribute_class (sym e) (to_303 s list place r here h)
  test_breaks rule (inr (inr (inl (e, h)))) = leaves_subset (sym e) (to_304 s list place r here h)
  test_breaks rule (inr (inr (inr (inl (e, h))))) = names_nothing (sym e) (to_305 s list place r here own aimed h)
  test_breaks rule (inr (inr (inr (inr (inl (e, h)))))) = joins_wrong (sym e) (to_306 s list place r here own aimed h)
  test_breaks rule (inr (inr (inr (inr (inr (inl (e, h))))))) = repeats_side (sym e) (to_307 h)
  test_breaks rule (inr (inr (inr (inr (inr (inr h)))))) = absurd h

  -- a rule but 301 that is broken here is one of the tests, or 307 beside 306
  pub breaks_test : (rule : ℕ) → BreaksReferenceRule s list rule (suc place) → ¬ (RepeatsNameAt list place) → BreaksTest (reference_tests s (first_subset list) own table r) rule ⊎ ((rule ≡ 307) × BreaksTest (reference_tests s (first_subset list) own table r) 306)
  breaks_test rule (repeats_name e d) fresh =
      absurd (fresh (d.0 - 1, d.1, r, omega (arith, d.3, d.4.0), d.4.1, here, d.6 ∙ ap Rattle.edi_plan.specs.PlanOf.own_name (one_record d.2 d.5)))
  breaks_test rule (lacks_class e d) fresh = inl (inl (sym e, from_302 s list place r here d))
  breaks_test rule (lacks_attribute_class e d) fresh = inl (inr (inl (sym e, from_303 s list place r here d)))
  breaks_test rule (leaves_subset e d) fresh = inl (inr (inr (inl (sym e, from_304 s list place r here d))))
  breaks_test rule (names_nothing e d) fresh = inl (inr (inr (inr (inl (sym e, from_305 s list place r here own aimed d)))))
  breaks_test rule (joins_wrong e d) fresh = inl (inr (inr (inr (inr (inl (sym e, from_306 s list place r here own aimed d))))))
  breaks_test rule (repeats_side e d) fresh = go (link_join role own) refl
    where
      go : (o : Option Join) → link_join role own ≡ o → BreaksTest (reference_tests s (first_subset list) own table r) rule ⊎ ((rule ≡ 307) × BreaksTest (reference_tests s (first_subset list) own table r) 306)
      go (Some j) h = inl (inr (inr (inr (inr (inr (inl (sym e, taken d j h)))))))
      go None h =
          let has = subst (λ t. IsLinkOfRole s list t d.4) (one_record d.3 d.7) d.10 in
          let kind : is_plain role ≡ false = ap is_plain (role_is s list r d.4 has) ∙ is_plain_not d.4 d.8 in
          inr (e, inr (inr (inr (inr (inl (refl, ap (λ b. not b && is_none (link_join role own)) kind ∙ ap is_none h))))))

  -- ---- the least rule here, and no rule here

  pub clean_here : first_broken (reference_tests s (first_subset list) own table r) ≡ None → ¬ (RepeatsNameAt list place) → (rule : ℕ) → ¬ (BreaksReferenceRule s list rule (suc place))
  clean_here none fresh rule d = go (breaks_test rule d fresh)
    where
      go : BreaksTest (reference_tests s (first_subset list) own table r) rule ⊎ ((rule ≡ 307) × BreaksTest (reference_tests s (first_subset list) own table r) 306) → ⊥
      go (inl b) = none_broken (reference_tests s (first_subset list) own table r) none rule b
      go (inr (e, b)) = none_broken (reference_tests s (first_subset list) own table r) none 306 b

  pub least_here : (rule : ℕ) → first_broken (reference_tests s (first_subset list) own table r) ≡ Some rule → ¬ (RepeatsNameAt list place)
      → BreaksReferenceRule s list rule (suc place) × ((q : ℕ) → BreaksReferenceRule s list q (suc place) → rule ≤ q)
  least_here rule e fresh = (test_breaks rule least.breaks, λ q d. go q (breaks_test q d fresh))
    where
      least : Rattle.edi_line.proofs.FirstBroken.IsLeast (reference_tests s (first_subset list) own table r) rule
      least = first_is_least (reference_tests s (first_subset list) own table r) rule refl e

      go : (q : ℕ) → BreaksTest (reference_tests s (first_subset list) own table r) q ⊎ ((q ≡ 307) × BreaksTest (reference_tests s (first_subset list) own table r) 306) → rule ≤ q
      go q (inl b) = least.least q b
      go q (inr (is, b)) = let le = least.least 306 b in omega (arith, le, is)

  -- ---- the table with this record

  step_joined : first_broken (reference_tests s (first_subset list) own table r) ≡ None → (q : Record) (o : Role) → IsLinkAt s list place q o → (a : ℕ) × (x : ℕ) × JoinsIn s list q o a x
  step_joined none q o d = go (link_join o own) refl
    where
      same : q ≡ r
      same = same_Some _ _ (sym d.here ∙ here)

      has : IsLinkOfRole s list r o
      has = subst (λ t. IsLinkOfRole s list t o) same d.has_role

      go : (j : Option Join) → link_join o own ≡ j → (a : ℕ) × (x : ℕ) × JoinsIn s list q o a x
      go (Some j) e = (j.arc, j.other, subst (λ t. JoinsIn s list t o j.arc j.other) (sym same) (join_names s list r o own j aimed d.not_plain e))
      go None e =
          let is : role ≡ o = role_is s list r o has in
          let broken : not (is_plain role) && is_none (link_join role own) ≡ true = (λ i. not (is_plain (is i)) && is_none (link_join (is i) own)) ∙ ((λ i. not (d.not_plain i) && is_none (link_join o own)) ∙ ap is_none e) in
          absurd (none_broken (reference_tests s (first_subset list) own table r) none 306 (inr (inr (inr (inr (inl (refl, broken)))))))

  -- this record joins nothing else
  here_joins : (q : Record) (o : Role) (a x : ℕ) → IsLinkAt s list place q o → JoinsIn s list q o a x → (role ≡ o) × (link_join role own ≡ Some (record { arc = a; other = x }))
  here_joins q o a x d joins =
      let same : q ≡ r = same_Some _ _ (sym d.here ∙ here) in
      let is : role ≡ o = role_is s list r o (subst (λ t. IsLinkOfRole s list t o) same d.has_role) in
      (is, ap (λ p. link_join p own) is ∙ names_join s list r o own a x aimed d.not_plain (subst (λ t. JoinsIn s list t o a x) same joins))

  more_joins : (a : ℕ) (o : Role) (x : ℕ) → JoinsBefore s list place a o x → JoinsBefore s list (suc place) a o x
  more_joins a o x d = record { at = d.at; link = d.link; before = omega (arith, d.before); is_link = d.is_link; joins = d.joins }

  fewer_joins : (a : ℕ) (o : Role) (x : ℕ) → JoinsBefore s list (suc place) a o x → JoinsBefore s list place a o x ⊎ ((role ≡ o) × (link_join role own ≡ Some (record { arc = a; other = x })))
  fewer_joins a o x d = go (cases_lt d.at place)
    where
      go : (d.at < place) ⊎ (place ≤ d.at) → JoinsBefore s list place a o x ⊎ ((role ≡ o) × (link_join role own ≡ Some (record { arc = a; other = x })))
      go (inl less) = inl (record { at = d.at; link = d.link; before = less; is_link = d.is_link; joins = d.joins })
      go (inr past) = let e : d.at ≡ place = omega (arith, d.before, past) in inr (here_joins d.link o a x (subst (λ k. IsLinkAt s list k d.link o) e d.is_link) d.joins)

  this_join : (j : Join) → link_join role own ≡ Some j → JoinsBefore s list (suc place) j.arc role j.other
  this_join j e =
      let kind = join_kind j e in
      record { at = place; link = r; before = omega arith; is_link = record { here = here; has_role = link_has_role s list r kind; not_plain = kind }; joins = join_names s list r role own j aimed kind e }

  old_kept : (a : ℕ) (o : Role) → is_plain o ≡ false → ((x : ℕ) → (role ≡ o) × (link_join role own ≡ Some (record { arc = a; other = x })) → ⊥) → (found : Option ℕ) → IsJoinIfAny s list place a o found → IsJoinIfAny s list (suc place) a o found
  old_kept a o h other None none = λ x d. go x (fewer_joins a o x d)
    where
      go : (x : ℕ) → JoinsBefore s list place a o x ⊎ ((role ≡ o) × (link_join role own ≡ Some (record { arc = a; other = x }))) → ⊥
      go x (inl b) = none x b
      go x (inr n) = other x n
  old_kept a o h other (Some x) there = more_joins a o x there

  step_noted : (a : ℕ) (o : Role) → is_plain o ≡ false → IsJoinIfAny s list (suc place) a o (side_after (side_at table a o) role (link_join role own) a o)
  step_noted a o h = go (link_join role own) refl
    where
      go : (j : Option Join) → link_join role own ≡ j → IsJoinIfAny s list (suc place) a o (side_after (side_at table a o) role j a o)
      go None e = old_kept a o h (λ x d. let no : Some (record { arc = a; other = x }) ≡ None = sym d.1 ∙ e in true≢false (ap is_some no)) (side_at table a o) (before.noted a o h)
      go (Some j) e = by (same_role o role && nat_eq a j.arc) refl
        where
          by : (b : Bool) → same_role o role && nat_eq a j.arc ≡ b → IsJoinIfAny s list (suc place) a o (cond b (Some j.other) (side_at table a o))
          by true t =
              let both = and_parts _ _ t in
              let arcs : a ≡ j.arc = eqb-true a j.arc both.1 in
              let roles : o ≡ role = one_role o role (eqb-true (role_rank o) (role_rank role) both.0) in
              subst (λ n. JoinsBefore s list (suc place) n o j.other) (sym arcs) (subst (λ p. JoinsBefore s list (suc place) j.arc p j.other) (sym roles) (this_join j e))
          by false t =
              old_kept a o h
              (λ x d.
              let same : Some (record { arc = a; other = x }) ≡ Some j = sym d.1 ∙ e in
              let arcs : a ≡ j.arc = ap (λ (k : Join). k.arc) (same_Some _ _ same) in
              let yes : same_role o role && nat_eq a j.arc ≡ true = (λ i. same_role o (d.0 i) && nat_eq a (sym arcs i)) ∙ ((λ i. eq-eqb (role_rank o) (role_rank o) refl i && nat_eq a a) ∙ eq-eqb a a refl) in
              true≢false (sym yes ∙ t))
              (side_at table a o) (before.noted a o h)

  pub step_done : (new : List (ByRole (Option ℕ))) → first_broken (reference_tests s (first_subset list) own table r) ≡ None → ¬ (RepeatsNameAt list place) → IsNoted table role (link_join role own) new → IsDone s list (place + 1) new
  step_done new none fresh noted = subst (λ k. IsDone s list k new) (sym (Rattle.std.proofs.Common.add-one place)) (record {
    long = noted.long ∙ before.long;
    unbroken = λ k rule less. unbroken k rule (cases_lt k place) less;
    joined = λ k q o less d. joined k q o (cases_lt k place) less d;
    noted = λ a o h. subst (IsJoinIfAny s list (suc place) a o) (sym (noted.each a o h)) (step_noted a o h);
  })
    where
      unbroken : (k rule : ℕ) → (k < place) ⊎ (place ≤ k) → k < suc place → ¬ (BreaksReferenceRule s list rule (suc k))
      unbroken k rule (inl below) less = before.unbroken k rule below
      unbroken k rule (inr past) less = let e : place ≡ k = omega arith in subst (λ j. ¬ (BreaksReferenceRule s list rule (suc j))) e (clean_here none fresh rule)

      joined : (k : ℕ) (q : Record) (o : Role) → (k < place) ⊎ (place ≤ k) → k < suc place → IsLinkAt s list k q o → (a : ℕ) × (x : ℕ) × JoinsIn s list q o a x
      joined k q o (inl below) less d = before.joined k q o below d
      joined k q o (inr past) less d = let e : k ≡ place = omega arith in step_joined none q o (subst (λ j. IsLinkAt s list j q o) e d)

-- ---- where reading stops

low : (s : Classes) (list : List Record) (rule at : ℕ) → BreaksReferenceRule s list rule at → (301 ≤ rule) × (1 ≤ at)
low s list rule at (repeats_name e d) = (omega (arith, e), d.5.0)
low s list rule at (lacks_class e d) = (omega (arith, e), d.1.0)
low s list rule at (lacks_attribute_class e d) = (omega (arith, e), d.1.0)
low s list rule at (leaves_subset e d) = (omega (arith, e), d.3.0)
low s list rule at (names_nothing e d) = (omega (arith, e), d.1.0)
low s list rule at (joins_wrong e d) = (omega (arith, e), d.1.0)
low s list rule at (repeats_side e d) = (omega (arith, e), d.7.0)

pub refused_at : (s : Classes) (list : List Record) (place : ℕ) (table : List (ByRole (Option ℕ))) → IsDone s list place table → (rule : ℕ)
    → BreaksReferenceRule s list rule (suc place) × ((q : ℕ) → BreaksReferenceRule s list q (suc place) → rule ≤ q) → IsLeastBroken (BreaksReferenceRule s list) rule (place + 1)
refused_at s list place table before rule found = subst (IsLeastBroken (BreaksReferenceRule s list) rule) (sym (Rattle.std.proofs.Common.add-one place)) (record { is = found.0; least = least })
  where
    least : (r p : ℕ) → BreaksReferenceRule s list r p → (suc place < p) ⊎ ((suc place ≡ p) × (rule ≤ r))
    least r zero h = let l = (low s list r zero h).1 in absurd (omega (arith, l))
    least r (suc k) h = go (cases_lt k place) (cases_lt place k)
      where
        go : (k < place) ⊎ (place ≤ k) → (place < k) ⊎ (k ≤ place) → (suc place < suc k) ⊎ ((suc place ≡ suc k) × (rule ≤ r))
        go (inl below) other = absurd (before.unbroken k r below h)
        go (inr past) (inl above) = inl (omega arith)
        go (inr past) (inr same) = let e : k ≡ place = omega arith in inr (omega arith, found.1 r (subst (λ j. BreaksReferenceRule s list r (suc j)) e h))

pub repeats_301 : (s : Classes) (list : List Record) (place : ℕ) → RepeatsNameAt list place → BreaksReferenceRule s list 301 (suc place) × ((q : ℕ) → BreaksReferenceRule s list q (suc place) → 301 ≤ q)
repeats_301 s list place d =
    (repeats_name refl (suc d.0, d.1, d.2, omega (arith, d.3), at d.0 d.1 d.4, at place d.2 d.5, d.6), λ q h. (low s list q (suc place) h).0)
  where
    at : (k : ℕ) (r : Record) → slice_get list k ≡ Some r → IsRecordAt s list (suc k) r
    at k r h = (omega arith, (let e : suc k - 1 ≡ k = omega arith in subst (λ j. slice_get list j ≡ Some r) (sym e) h))
