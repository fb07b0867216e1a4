-- What is found out of each record of a sheet, one record on.
use Rattle.std.proofs.Common.{◌≡◌, ◌↔◌, add-one, ℕ, zero, suc, ◌+◌, ◌-◌, ◌<◌, ◌≤◌, ◌⊎◌, inl, inr, Bool, true, false, cond, not, ◌&&◌, ◌||◌, nat_eq, is_some, is_none, List, [], ◌∷◌, ◌++◌, length, get_or, Option, Some, None, option_map, unwrap_or, slice_get, replicate, take, refl, sym, ap, ◌∙◌, subst, arith, IsTrue, Any, true≢false, eqb-true, eq-eqb}
use Rattle.std.specs.List.{AllZip, list_any, position_or_len}
use Rattle.std.specs.Map.{lookup, keys_of}
use Rattle.std.proofs.lemmas.Bool.{cases_lt, lt-ltb, and_parts}
use Rattle.std.proofs.lemmas.List.{length-replicate}
use Rattle.std.proofs.lemmas.List.Folds.{list_any_more}
use Rattle.std.proofs.lemmas.Option.{slice_get-get_or, slice_get_within, same_Some}
use Rattle.edi_record.specs.LinkEnds.{EndData}
use Rattle.edi_record.specs.declared.record.Kind.{Kind}
use Rattle.edi_record.specs.declared.record.Kind.TheVariants.{Par}
use Rattle.edi_record.specs.declared.record.Record.{Record}
use Rattle.edi_record.specs.declared.name.Name.{Name}
use Rattle.edi_schema.specs.Classes.{Classes, is_name, place_of, role_named}
use Rattle.edi_schema.specs.ByRole.{no_values, of_role}
use Rattle.edi_schema.specs.Roles.{is_plain, same_role, role_rank}
use Rattle.edi_schema.specs.declared.class.Class.{Class}
use Rattle.edi_schema.specs.declared.by_role.ByRole.{ByRole}
use Rattle.edi_schema.specs.declared.role.Role.{Role}
use Rattle.edi_schema.specs.declared.role.Role.TheVariants.{Initial, Final, Left, Right, Plain}
use Rattle.edi_record.specs.Records.{is_link}
use Rattle.edi_schema.proofs.RoleTests.{not_plain, is_plain_not, one_role}
use Rattle.edi_plan.specs.Joined.{beside}
use Rattle.edi_plan.specs.Plans.{same_kind}
use Rattle.edi_plan.specs.ReferenceRules.{Names, IsLinkOfRole, RepeatsRecordName, RepeatsSide}
use Rattle.edi_plan.specs.RecordsUnderSchema.{RecordsUnderSchema}
use Rattle.edi_plan.specs.inner.Findings.{AreLinkFindings, AreRepeats, EachAt, arc_place, is_arc_at, is_sided, NamesArcBefore, AreSided, IsLinkFinding}
use Rattle.edi_plan.specs.inner.Names.{RepeatsNameAt}
use Rattle.edi_plan.specs.inner.Resolving.{role_of_link}
use Rattle.edi_plan.specs.inner.SideTable.{join_in, link_join, side_at, HaveEntries}
use Rattle.edi_plan.specs.inner.Targets.{IsTargetIfAny}
use Rattle.edi_plan.specs.declared.link_findings.LinkFindings.{LinkFindings}
use Rattle.edi_plan.specs.declared.targets.Target.{Target}
use Rattle.edi_plan.proofs.NewTable.{new_entries, nothing_of}
use Rattle.edi_plan.proofs.OwnRules.{is_at, one_record, to_305, from_305, to_306, from_306}
use Rattle.edi_plan.proofs.RuleLemmas.{any_zip, zip_any, any_map, target_names, names_target, kind_same, link_has_role, role_is}

-- ---- one element more

pub each_pushed : {X : Type 0} (P : ℕ → X → Type 0) (xs : List X) (x : X) → EachAt P xs → P (length xs) x → EachAt P (xs ++ x ∷ [])
each_pushed {X} P xs x each last k y at = go P xs k each last at
  where
    go : (P : ℕ → X → Type 0) (xs : List X) (k : ℕ) → EachAt P xs → P (length xs) x → slice_get (xs ++ x ∷ []) k ≡ Some y → P k y
    go P [] zero each last at = subst (P 0) (same_Some _ _ at) last
    go P [] (suc k) each last at = absurd cc
    go P (z ∷ zs) zero each last at = each 0 y at
    go P (z ∷ zs) (suc k) each last at = go (λ n. P (suc n)) zs k (λ j w h. each (suc j) w h) last at

pub each_of_none : {X : Type 0} (P : ℕ → X → Type 0) (xs : List X) → xs ≡ [] → EachAt P xs
each_of_none P xs is k x at = let less = slice_get_within xs k x at in absurd (omega (arith, less, ap length is))

-- a test that equals another
pub tested : {P : Type 0} (b t : Bool) → b ≡ t → (t ≡ true → P) → (P → t ≡ true) → IsTrue b ↔ P
tested b t e to from = (λ h. to (sym e ∙ h), λ d. e ∙ from d)

pub none_not_some : {X : Type 0} (o : Option X) (b : Bool) → is_some o ≡ not b → b ≡ is_none o
none_not_some None true h = refl
none_not_some None false h = absurd (true≢false (sym h))
none_not_some (Some x) true h = absurd (true≢false h)
none_not_some (Some x) false h = refl

-- what holds of records and classes holds of them as one
pub at_place : (P : Classes → List Record → ℕ → Type 0) (s : Classes) (list : List Record) (v : RecordsUnderSchema) (place : ℕ) (b : Bool) → record { classes = s; list = list } ≡ v → IsTrue b ↔ P s list (suc place)
    → IsTrue b ↔ P v.classes v.list (place + 1)
at_place P s list v place b is h = subst (λ (w : RecordsUnderSchema). IsTrue b ↔ P w.classes w.list (place + 1)) is (subst (λ k. IsTrue b ↔ P s list k) (sym (add-one place)) h)

pub place_inside : (s : Classes) (list : List Record) (v : RecordsUnderSchema) (place : ℕ) → record { classes = s; list = list } ≡ v → place < length v.list → place < length list
place_inside s list v place is less = subst (λ (w : RecordsUnderSchema). place < length w.list) (sym is) less

pub link_found : (s : Classes) (list : List Record) (found : List LinkFindings) (place : ℕ) (d : LinkFindings) → AreLinkFindings s list found → place < length list → IsLinkFinding s list place (get_or found place d)
link_found s list found place d all less = all.each place (get_or found place d) (slice_get-get_or found place d (omega (arith, less, all.long)))

-- ---- 301

pub repeat_found : (s : Classes) (list : List Record) (found : List Bool) (place : ℕ) (d : Bool) → AreRepeats s list found → place < length list → IsTrue (get_or found place d) ↔ RepeatsRecordName s list (suc place)
repeat_found s list found place d all less = all.each place (get_or found place d) (slice_get-get_or found place d (omega (arith, less, all.long)))

pub repeats_record : (s : Classes) (list : List Record) (n : ℕ) → RepeatsNameAt list n → RepeatsRecordName s list (suc n)
repeats_record s list n d = (suc d.0, d.1, d.2, omega (arith, d.3), is_at s list d.0 d.1 d.4, is_at s list n d.2 d.5, d.6)

pub record_repeats : (s : Classes) (list : List Record) (n : ℕ) → RepeatsRecordName s list (suc n) → RepeatsNameAt list n
record_repeats s list n d = (d.0 - 1, d.1, d.2, omega (arith, d.3, d.4.0), d.4.1, subst (λ k. slice_get list k ≡ Some d.2) (omega arith) d.5.1, d.6)

-- ---- the role of a class that the schema lacks

lookup_past : (test : Name → Bool) (s : Classes) → length (keys_of s) ≤ position_or_len test (keys_of s) → lookup test s ≡ None
lookup_past test [] past = refl
lookup_past test (e ∷ es) past = go (test e.0) refl (lookup_past test es) past
  where
    go : (b : Bool) → test e.0 ≡ b → (length (keys_of es) ≤ position_or_len test (keys_of es) → lookup test es ≡ None)
        → length (keys_of (e ∷ es)) ≤ cond (not b) (1 + position_or_len test (keys_of es)) 0 → cond b (Some e.1) (lookup test es) ≡ None
    go true t more past = absurd (omega (arith, past))
    go false t more past = more (omega (arith, past))

pub unknown_role : (s : Classes) (name : Name) → place_of s name ≡ None → role_named s name ≡ None
unknown_role s name none = ap (option_map (λ (c : Class). c.role)) (lookup_past (is_name name) s (past (cases_lt (position_or_len (is_name name) (keys_of s)) (length (keys_of s)))))
  where
    past : (position_or_len (is_name name) (keys_of s) < length (keys_of s)) ⊎ (length (keys_of s) ≤ position_or_len (is_name name) (keys_of s)) → length (keys_of s) ≤ position_or_len (is_name name) (keys_of s)
    past (inr le) = le
    past (inl less) =
        let t = lt-ltb (position_or_len (is_name name) (keys_of s)) (length (keys_of s)) less in
        let some : place_of s name ≡ Some (position_or_len (is_name name) (keys_of s)) = ap (λ b. cond b (Some (position_or_len (is_name name) (keys_of s))) None) t in
        absurd (true≢false (ap is_some (sym some ∙ none)))

pub role_of_none : (s : Classes) (r : Record) → role_named s r.scp ≡ None → role_of_link s r ≡ Plain
role_of_none s r none = go (is_link r.kind) (role_named s r.scp) none
  where
    go : (b : Bool) (o : Option Role) → o ≡ None → cond b (unwrap_or o Plain) Plain ≡ Plain
    go true o none = ap (λ p. unwrap_or p Plain) none
    go false o none = refl

-- ---- 306 at one record

pub wrong_some : (role : Role) (kind : Kind) (ts : List (Option Target)) → cond (is_plain role) None (Some (beside role)) ≡ Some kind → is_none (join_in kind ts) ≡ (not (is_plain role) && is_none (link_join role ts))
wrong_some Initial kind ts h = ap (λ k. is_none (join_in k ts)) (sym (same_Some _ _ h))
wrong_some Final kind ts h = ap (λ k. is_none (join_in k ts)) (sym (same_Some _ _ h))
wrong_some Left kind ts h = ap (λ k. is_none (join_in k ts)) (sym (same_Some _ _ h))
wrong_some Right kind ts h = ap (λ k. is_none (join_in k ts)) (sym (same_Some _ _ h))
wrong_some Plain kind ts h = absurd cc

pub wrong_none : (role : Role) (ts : List (Option Target)) → cond (is_plain role) None (Some (beside role)) ≡ None → false ≡ (not (is_plain role) && is_none (link_join role ts))
wrong_none Initial ts h = absurd cc
wrong_none Final ts h = absurd cc
wrong_none Left ts h = absurd cc
wrong_none Right ts h = absurd cc
wrong_none Plain ts h = refl

-- ---- entries of a table

pub entry_at : (table : List (ByRole (Option ℕ))) (ts : List (Option Target)) (i : ℕ) (d : Option Target) → HaveEntries table ts → i < length ts → HaveEntries table (get_or ts i d ∷ [])
entry_at table [] i d all less = absurd (omega (arith, less))
entry_at table (None ∷ ts) zero d all less = tt
entry_at table (Some v ∷ ts) zero d all less = (all.0, tt)
entry_at table (None ∷ ts) (suc i) d all less = entry_at table ts i d all (omega (arith, less))
entry_at table (Some v ∷ ts) (suc i) d all less = entry_at table ts i d all.1 (omega (arith, less))

pub entries_long : (table other : List (ByRole (Option ℕ))) (ts : List (Option Target)) → length other ≡ length table → HaveEntries table ts → HaveEntries other ts
entries_long table other [] long all = tt
entries_long table other (None ∷ ts) long all = entries_long table other ts long all
entries_long table other (Some t ∷ ts) long all = (omega (arith, all.0, long), entries_long table other ts long all.1)

pub arc_within : (table : List (ByRole (Option ℕ))) (t : Option Target) (a : ℕ) → HaveEntries table (t ∷ []) → arc_place t ≡ Some a → a < length table
arc_within table None a all is = absurd cc
arc_within table (Some t) a all is = go (same_kind t.kind Par) is
  where
    go : (b : Bool) → cond b (Some t.place) None ≡ Some a → a < length table
    go true is = subst (λ n. n < length table) (same_Some _ _ is) all.0
    go false is = absurd cc

pub arc_sided : (table : List (ByRole (Option ℕ))) (role : Role) (t : Option Target) (a : ℕ) → arc_place t ≡ Some a → is_sided table role t ≡ is_some (side_at table a role)
arc_sided table role None a is = absurd cc
arc_sided table role (Some t) a is = go (same_kind t.kind Par) is
  where
    go : (b : Bool) → cond b (Some t.place) None ≡ Some a → cond b (is_some (side_at table t.place role)) false ≡ is_some (side_at table a role)
    go true is = ap (λ n. is_some (side_at table n role)) (same_Some _ _ is)
    go false is = absurd cc

pub none_sided : (table : List (ByRole (Option ℕ))) (role : Role) (t : Option Target) → arc_place t ≡ None → is_sided table role t ≡ false
none_sided table role None is = refl
none_sided table role (Some t) is = go (same_kind t.kind Par) is
  where
    go : (b : Bool) → cond b (Some t.place) None ≡ None → cond b (is_some (side_at table t.place role)) false ≡ false
    go true is = absurd cc
    go false is = refl

pub arc_is_at : (t : Option Target) (a b : ℕ) → arc_place t ≡ Some b → is_arc_at a t ≡ nat_eq a b
arc_is_at None a b is = absurd cc
arc_is_at (Some t) a b is = go (same_kind t.kind Par) is
  where
    go : (c : Bool) → cond c (Some t.place) None ≡ Some b → cond c (nat_eq a t.place) false ≡ nat_eq a b
    go true is = ap (λ n. nat_eq a n) (same_Some _ _ is)
    go false is = absurd cc

pub none_is_at : (t : Option Target) (a : ℕ) → arc_place t ≡ None → is_arc_at a t ≡ false
none_is_at None a is = refl
none_is_at (Some t) a is = go (same_kind t.kind Par) is
  where
    go : (c : Bool) → cond c (Some t.place) None ≡ None → cond c (nat_eq a t.place) false ≡ false
    go true is = absurd cc
    go false is = refl

-- one target more
pub noted_more : (old now : List (ByRole (Option ℕ))) (ts : List (Option Target)) (role : Role) (i a : ℕ) (o : Role) (d : Option Target) → i < length ts
    → is_some (side_at now a o) ≡ (is_some (side_at old a o) || (same_role o role && list_any (is_arc_at a) (take i ts)))
    → (is_some (side_at now a o) || (same_role o role && is_arc_at a (get_or ts i d))) ≡ (is_some (side_at old a o) || (same_role o role && list_any (is_arc_at a) (take (i + 1) ts)))
noted_more old now ts role i a o d less before =
    ap (λ b. b || (same_role o role && is_arc_at a (get_or ts i d))) before
    ∙ (go (is_some (side_at old a o)) (same_role o role) (list_any (is_arc_at a) (take i ts)) (is_arc_at a (get_or ts i d))
    ∙ ap (λ b. is_some (side_at old a o) || (same_role o role && b)) (sym (list_any_more (is_arc_at a) ts i d less)))
  where
    go : (w x y z : Bool) → ((w || (x && y)) || (x && z)) ≡ (w || (x && (y || z)))
    go true x y z = refl
    go false true y z = refl
    go false false y z = refl

-- ---- 305 and 307 at one record

module _ (s : Classes) (list : List Record) where
  pub arc_named : (a : ℕ) (e : EndData) (t : Option Target) → IsTargetIfAny list e t → is_arc_at a t ≡ true → Names s list e a Par
  arc_named a e None is h = absurd cc
  arc_named a e (Some t) is h = go (same_kind t.kind Par) refl h
    where
      go : (b : Bool) → same_kind t.kind Par ≡ b → cond b (nat_eq a t.place) false ≡ true → Names s list e a Par
      go false k h = absurd cc
      go true k h =
          subst (λ n. Names s list e n Par) (sym (eqb-true a t.place h))
          (subst (λ (x : Kind). Names s list e t.place x) (kind_same s list t.kind Par k) (target_names s list e t is))

  pub named_arc : (a : ℕ) (e : EndData) (t : Option Target) → IsTargetIfAny list e t → Names s list e a Par → is_arc_at a t ≡ true
  named_arc a e t is names = ap (is_arc_at a) (names_target s list e t a Par is names refl) ∙ eq-eqb a a refl

  -- an end of this list names an arc that an earlier link of the role names
  abbrev IsEarlierArc : ℕ → Role → EndData → Type 0
  IsEarlierArc n role e = (a : ℕ) × Names s list e a Par × NamesArcBefore s list n a role

  sided_arc : (n : ℕ) (role : Role) (table : List (ByRole (Option ℕ))) → AreSided s list n table → is_plain role ≡ false → (e : EndData) (t : Option Target) → IsTargetIfAny list e t → is_sided table role t ≡ true → IsEarlierArc n role e
  sided_arc n role table sided plain e None is h = absurd cc
  sided_arc n role table sided plain e (Some t) is h = go (same_kind t.kind Par) refl h
    where
      go : (b : Bool) → same_kind t.kind Par ≡ b → cond b (is_some (side_at table t.place role)) false ≡ true → IsEarlierArc n role e
      go false k h = absurd cc
      go true k h = (
        t.place,
        subst (λ (x : Kind). Names s list e t.place x) (kind_same s list t.kind Par k) (target_names s list e t is),
        (sided.each t.place role plain).0 h,
      )

  arc_is_sided : (n : ℕ) (role : Role) (table : List (ByRole (Option ℕ))) → AreSided s list n table → is_plain role ≡ false → (e : EndData) (t : Option Target) → IsTargetIfAny list e t → IsEarlierArc n role e → is_sided table role t ≡ true
  arc_is_sided n role table sided plain e t is d =
      ap (is_sided table role) (names_target s list e t d.0 Par is d.1 refl) ∙ (sided.each d.0 role plain).1 d.2

  sided_kind : (table : List (ByRole (Option ℕ))) (o : Role) (t : Option Target) → is_sided table o t ≡ true → is_plain o ≡ false
  sided_kind table Initial t h = refl
  sided_kind table Final t h = refl
  sided_kind table Left t h = refl
  sided_kind table Right t h = refl
  sided_kind table Plain None h = absurd cc
  sided_kind table Plain (Some t) h = go (same_kind t.kind Par) h
    where
      go : (b : Bool) → cond b false false ≡ true → true ≡ false
      go true h = sym h
      go false h = sym h

module _ (s : Classes) (list : List Record) (n : ℕ) (r : Record) (here : slice_get list n ≡ Some r) (own : List (Option Target)) (aimed : AllZip (IsTargetIfAny list) r.ends own)
    (table : List (ByRole (Option ℕ))) (sided : AreSided s list n table) where
  abbrev role : Role
  role = role_of_link s r

  to_307 : list_any (is_sided table role) own ≡ true → RepeatsSide s list (suc n)
  to_307 h =
      let P : EndData → Type 0 = λ e. (is_plain role ≡ false) × IsEarlierArc s list n role e in
      let find : (e : EndData) (t : Option Target) → IsTargetIfAny list e t → is_sided table role t ≡ true → P e =
      λ e t is yes. (sided_kind s list table role t yes, sided_arc s list n role table sided (sided_kind s list table role t yes) e t is yes) in
      let found = zip_any (IsTargetIfAny list) P (is_sided table role) find r.ends own aimed h in
      let plain = found.4.0 in
      let arc = found.4.1 in
      let before = arc.2 in (
        suc before.0,
        arc.0,
        before.1,
        r,
        role,
        omega (arith, before.2),
        is_at s list before.0 before.1 before.3,
        is_at s list n r here,
        not_plain role plain,
        before.4,
        link_has_role s list r plain,
        before.5,
        (found.0, found.1, found.2, found.3, arc.1),
      )

  from_307 : RepeatsSide s list (suc n) → list_any (is_sided table role) own ≡ true
  from_307 d =
      let here_is : d.3 ≡ r = one_record s list n r here d.3 d.7 in
      let has = subst (λ t. IsLinkOfRole s list t d.4) here_is d.10 in
      let same : role ≡ d.4 = role_is s list r d.4 has in
      let plain : is_plain role ≡ false = ap is_plain same ∙ is_plain_not d.4 d.8 in
      let before : NamesArcBefore s list n d.1 role = (d.0 - 1, d.2, omega (arith, d.5, d.6.0), d.6.1, subst (IsLinkOfRole s list d.2) (sym same) d.9, d.11) in
      any_zip (IsTargetIfAny list) (IsEarlierArc s list n role) (is_sided table role) (arc_is_sided s list n role table sided plain) r.ends own aimed
      (any_map (λ e. Names s list e d.1 Par) (IsEarlierArc s list n role) (λ e names. (d.1, names, before)) r.ends
      (subst (λ (t : Record). Any (λ e. Names s list e d.1 Par) t.ends) here_is d.12))

  pub found_here : (f : LinkFindings) → f.names_nothing ≡ list_any is_none own → f.joins_wrong ≡ (not (is_plain role) && is_none (link_join role own)) → f.repeats_side ≡ list_any (is_sided table role) own
      → IsLinkFinding s list n f
  found_here f nothing wrong repeats = record {
    nothing = (λ h. to_305 s list n r here own aimed (sym nothing ∙ h), λ d. nothing ∙ from_305 s list n r here own aimed d);
    wrong = (λ h. to_306 s list n r here own aimed (sym wrong ∙ h), λ d. wrong ∙ from_306 s list n r here own aimed d);
    repeats = (λ h. to_307 (sym repeats ∙ h), λ d. repeats ∙ from_307 d);
  }

  -- the table with this record's link noted
  pub next_sided : (new : List (ByRole (Option ℕ))) → length new ≡ length table
      → ((a : ℕ) (o : Role) → is_plain o ≡ false → is_some (side_at new a o) ≡ (is_some (side_at table a o) || (same_role o role && list_any (is_arc_at a) own)))
      → AreSided s list (suc n) new
  next_sided new long each = record { long = long ∙ sided.long; each = λ a o plain. (to a o plain, from a o plain) }
    where
      more : (a : ℕ) (o : Role) → NamesArcBefore s list n a o → NamesArcBefore s list (suc n) a o
      more a o d = (d.0, d.1, omega (arith, d.2), d.3, d.4, d.5)

      to : (a : ℕ) (o : Role) → is_plain o ≡ false → is_some (side_at new a o) ≡ true → NamesArcBefore s list (suc n) a o
      to a o plain h = go (is_some (side_at table a o)) refl (sym (each a o plain) ∙ h)
        where
          go : (b : Bool) → is_some (side_at table a o) ≡ b → b || (same_role o role && list_any (is_arc_at a) own) ≡ true → NamesArcBefore s list (suc n) a o
          go true t e = more a o ((sided.each a o plain).0 t)
          go false t e =
              let both = and_parts (same_role o role) (list_any (is_arc_at a) own) e in
              let same : o ≡ role = one_role o role (eqb-true (role_rank o) (role_rank role) both.0) in (
                n,
                r,
                omega arith,
                here,
                subst (IsLinkOfRole s list r) (sym same) (link_has_role s list r (ap is_plain (sym same) ∙ plain)),
                zip_any (IsTargetIfAny list) (λ e. Names s list e a Par) (is_arc_at a) (arc_named s list a) r.ends own aimed both.1,
              )

      or_true : (b : Bool) → b || true ≡ true
      or_true true = refl
      or_true false = refl

      from : (a : ℕ) (o : Role) → is_plain o ≡ false → NamesArcBefore s list (suc n) a o → is_some (side_at new a o) ≡ true
      from a o plain d = each a o plain ∙ go (cases_lt d.0 n)
        where
          go : (d.0 < n) ⊎ (n ≤ d.0) → is_some (side_at table a o) || (same_role o role && list_any (is_arc_at a) own) ≡ true
          go (inl less) = ap (λ b. b || (same_role o role && list_any (is_arc_at a) own)) ((sided.each a o plain).1 (d.0, d.1, less, d.3, d.4, d.5))
          go (inr past) =
              let e : d.0 ≡ n = omega (arith, d.2, past) in
              let q_is : d.1 ≡ r = same_Some _ _ (sym (subst (λ k. slice_get list k ≡ Some d.1) e d.3) ∙ here) in
              let same : role ≡ o = role_is s list r o (subst (λ t. IsLinkOfRole s list t o) q_is d.4) in
              let any : list_any (is_arc_at a) own ≡ true = any_zip (IsTargetIfAny list) (λ e. Names s list e a Par) (is_arc_at a) (named_arc s list a) r.ends own aimed
              (subst (λ (t : Record). Any (λ e. Names s list e a Par) t.ends) q_is d.5) in
              (λ i. is_some (side_at table a o) || (same_role o (same i) && any i)) ∙ ((λ i. is_some (side_at table a o) || (eq-eqb (role_rank o) (role_rank o) refl i && true)) ∙ or_true (is_some (side_at table a o)))

-- a table that has nothing
pub none_sided_yet : (s : Classes) (list : List Record) (table : List (ByRole (Option ℕ))) (n : ℕ) → n ≡ length list → table ≡ replicate n no_values → AreSided s list 0 table
none_sided_yet s list table n all is = record {
  long = ap length is ∙ (length-replicate n no_values ∙ all);
  each = λ a o plain. (λ h. absurd (true≢false (sym h ∙ nothing a o)), λ d. absurd (omega (arith, d.2)));
}
  where
    nothing : (a : ℕ) (o : Role) → is_some (side_at table a o) ≡ false
    nothing a o = ap is_some (ap (λ t. side_at t a o) is ∙ (ap (λ (v : ByRole (Option ℕ)). of_role v o) (new_entries n a) ∙ nothing_of o))
