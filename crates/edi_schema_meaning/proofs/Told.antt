-- What a file of a few records breaks of the rules of references, and what is told by that.
use Rattle.std.proofs.Common.{◌≡◌, ◌≢◌, ◌⊎◌, inl, inr, ℕ, zero, suc, ◌<◌, ◌≤◌, Bool, true, false, cond, true≢false, List, [], ◌∷◌, length, get_or, Option, Some, None, option_map, codes, slice_get, refl, sym, ap, ◌∙◌, subst, arith}
use Rattle.std.specs.Prelude.{Any, is_some}
use Rattle.std.specs.List.{AllByRecursion}
use Rattle.std.specs.Map.{keys_of}
use Rattle.std.proofs.lemmas.Option.{none-some, same_Some}
use Rattle.edi_line.specs.Refusal.{IsLeastBroken}
use Rattle.edi_line.proofs.Truths.{some_is, none_is}
use Rattle.edi_record.specs.Texts.{HasNoSemicolon}
use Rattle.edi_record.specs.declared.name.Name.{Name}
use Rattle.edi_record.specs.LinkEnds.{EndData}
use Rattle.edi_record.specs.declared.record.Kind.{Kind}
use Rattle.edi_record.specs.declared.record.Kind.TheVariants.{Pno, Pfe, Lnk}
use Rattle.edi_record.specs.declared.record.Record.{Record}
use Rattle.edi_record.specs.Records.{SheetData}
use Rattle.edi_schema.proofs.Names.{same_name}
use Rattle.edi_schema.specs.Classes.{Classes, IsReadName, IsSchema, class_named, is_name, place_of, role_named}
use Rattle.edi_schema.specs.Roles.{is_plain}
use Rattle.edi_schema.specs.declared.class.Class.{Class}
use Rattle.edi_schema.specs.declared.role.Role.{Role}
use Rattle.edi_schema.specs.declared.role.Role.TheVariants.{Initial, Final, Left, Right, Plain}
use Rattle.edi_plan.specs.Joined.{beside}
use Rattle.edi_plan.specs.Plans.{PlanData}
use Rattle.edi_plan.specs.ReferenceRules.{BreaksReferenceRule, IsLinkOfRole, IsRecordAt, JoinsArcTo, JoinsWrong, Names}
use Rattle.edi_plan.specs.ReferenceRules.BreaksReferenceRule.{repeats_name, lacks_class, lacks_attribute_class, leaves_subset, names_nothing, joins_wrong, repeats_side}
use Rattle.edi_rank.specs.EqualObjects.BreaksObjectRule.{repeats_object}
use Rattle.edi_topo.specs.TopologyRules.{BreaksTopologyRule}
use Rattle.edi_topo.specs.TopologyRules.BreaksTopologyRule.{starts_elsewhere, ends_elsewhere, repeats_node, equals_reverse, repeats_arc, bounds_nothing}
use Rattle.edi_compare.proofs.Phases.{one_plan, reference_refusal}
use Rattle.edi_compare.proofs.Reading.{reading_is_one}
use Rattle.edi_compare.specs.PlanOfFile.{IsPlanOfFile, IsSheetOf}
use Rattle.edi_compare.specs.Refused.{IsRefusal}
use Rattle.edi_compare.specs.Rules.{Breaks, RecordsHold, ReferencesHold}
use Rattle.edi_compare.specs.Rules.Breaks.{of_lines, of_records, of_references, of_topology, of_objects}
use Rattle.edi_compare.specs.declared.fault.Fault.TheVariants.{Entry}
use Rattle.edi_schema_meaning.proofs.Embed.{position-cons}
use Rattle.edi_schema_meaning.proofs.Probing.{IsPlainName}

-- ---- names of a schema

mapped_some : {X Y : Type 0} (f : X → Y) (o : Option X) → is_some (option_map f o) ≡ is_some o
mapped_some f None = refl
mapped_some f (Some x) = refl

-- a name has a class exactly if it has a place
pub named_placed : (s : Classes) (n : Name) → is_some (class_named s n) ≡ is_some (place_of s n)
named_placed [] n = refl
named_placed (e ∷ s) n = go (is_name n e.0) refl (named_placed s n)
  where
    go : (b : Bool) → is_name n e.0 ≡ b → is_some (class_named s n) ≡ is_some (place_of s n) → is_some (class_named (e ∷ s) n) ≡ is_some (place_of (e ∷ s) n)
    go true h more =
        ap (λ b. is_some (cond b (Some e.1) (class_named s n))) h
        ∙ sym (ap is_some (position-cons (is_name n) e.0 (keys_of s) ∙ ap (λ b. cond b (Some 0) (option_map suc (place_of s n))) h))
    go false h more =
        ap (λ b. is_some (cond b (Some e.1) (class_named s n))) h
        ∙ (more ∙ (sym (mapped_some suc (place_of s n)) ∙ sym (ap is_some (position-cons (is_name n) e.0 (keys_of s) ∙ ap (λ b. cond b (Some 0) (option_map suc (place_of s n))) h))))

pub place_some : (s : Classes) (n : Name) (role : Role) → role_named s n ≡ Some role → (k : ℕ) × (place_of s n ≡ Some k)
place_some s n role h = some_is (place_of s n) (sym (named_placed s n) ∙ (sym (mapped_some (λ c. c.role) (class_named s n)) ∙ ap is_some h))

pub place_none : (s : Classes) (n : Name) → role_named s n ≡ None → place_of s n ≡ None
place_none s n h = none_is (place_of s n) (sym (named_placed s n) ∙ (sym (mapped_some (λ c. c.role) (class_named s n)) ∙ ap is_some h))

-- what holds of each name holds of that of a class
pub all_named : (P : Name → Type 0) (s : Classes) → AllByRecursion (λ e. P e.0) s → (n : Name) (c : Class) → class_named s n ≡ Some c → P n
all_named P [] all n c h = absurd (none-some c h)
all_named P (e ∷ s) all n c h = go (is_name n e.0) refl h (all_named P s all.1 n c)
  where
    go : (b : Bool) → is_name n e.0 ≡ b → class_named (e ∷ s) n ≡ Some c → (class_named s n ≡ Some c → P n) → P n
    go true same g more = subst P (sym (same_name n e.0 same)) all.0
    go false other g more = more (rw other at g)

pub plain_name : (s : Classes) → IsSchema s → (n : Name) → HasNoSemicolon n.rty → (role : Role) → role_named s n ≡ Some role → IsPlainName n
plain_name s keeps n plain role h =
    let class = some_is (class_named s n) (sym (mapped_some (λ c. c.role) (class_named s n)) ∙ ap is_some h) in
    let read = all_named IsReadName s keeps.readable n class.0 class.1 in
    record { name = record { rty = plain; rid = read.2 }; line = record { rty = read.0; rid = read.1 } }

-- ---- which rule of references a file breaks

module _ (s : Classes) (b : List ℕ) (sheet : SheetData) (states : IsSheetOf b sheet) where
  -- a rule of this phase is broken by the records
  pub reference_back : RecordsHold s b → (rule at : ℕ) → rule < 400 → Breaks s b rule at → BreaksReferenceRule s sheet.list rule at
  reference_back records rule at low (of_lines h) = absurd (records.0 rule at h)
  reference_back records rule at low (of_records zones lines z h) = absurd (records.1 zones z rule at h)
  reference_back records rule at low (of_references other held z h) = subst (λ list. BreaksReferenceRule s list rule at) (reading_is_one.sheets b other sheet z states).1 h
  reference_back records rule at low (of_topology p held plan (starts_elsewhere e h)) = absurd (omega (arith, e, low))
  reference_back records rule at low (of_topology p held plan (ends_elsewhere e h)) = absurd (omega (arith, e, low))
  reference_back records rule at low (of_topology p held plan (repeats_node e h)) = absurd (omega (arith, e, low))
  reference_back records rule at low (of_topology p held plan (equals_reverse e h)) = absurd (omega (arith, e, low))
  reference_back records rule at low (of_topology p held plan (repeats_arc e h)) = absurd (omega (arith, e, low))
  reference_back records rule at low (of_topology p held plan (bounds_nothing e h)) = absurd (omega (arith, e, low))
  reference_back records rule at low (of_objects p held plan (repeats_object e a l h)) = absurd (omega (arith, e, low))

  -- a rule of topology is broken by the plan
  pub topology_back : ReferencesHold s b → (p : PlanData) → IsPlanOfFile s b p → (rule at : ℕ) → rule < 500 → Breaks s b rule at → BreaksTopologyRule p rule at
  topology_back held p plan rule at low (of_lines h) = absurd (held.0.0 rule at h)
  topology_back held p plan rule at low (of_records zones lines z h) = absurd (held.0.1 zones z rule at h)
  topology_back held p plan rule at low (of_references other records z h) = absurd (held.1 other z rule at h)
  topology_back held p plan rule at low (of_topology q references there h) = subst (λ x. BreaksTopologyRule x rule at) (one_plan s b q p there plan) h
  topology_back held p plan rule at low (of_objects q topology there (repeats_object e a l h)) = absurd (omega (arith, e, low))

-- a rule is broken at a place from 1, and at the first 301 isn't
first_place : (s : Classes) (list : List Record) (rule at : ℕ) → BreaksReferenceRule s list rule at → (1 ≤ at) × (at ≡ 1 → 302 ≤ rule)
first_place s list rule at (repeats_name e h) = let less = h.3 in let low = h.4.0 in (omega (arith, less), λ one. absurd (omega (arith, less, low, one)))
first_place s list rule at (lacks_class e h) = (h.1.0, λ one. omega (arith, e))
first_place s list rule at (lacks_attribute_class e h) = (h.1.0, λ one. omega (arith, e))
first_place s list rule at (leaves_subset e h) = (h.3.0, λ one. omega (arith, e))
first_place s list rule at (names_nothing e h) = (h.1.0, λ one. omega (arith, e))
first_place s list rule at (joins_wrong e h) = (h.1.0, λ one. omega (arith, e))
first_place s list rule at (repeats_side e h) = (h.7.0, λ one. omega (arith, e))

-- the least, where nothing less is broken at the first record
least_at_one : (s : Classes) (list : List Record) (rule : ℕ) → BreaksReferenceRule s list rule 1 → ((r : ℕ) → BreaksReferenceRule s list r 1 → rule ≤ r) → IsLeastBroken (BreaksReferenceRule s list) rule 1
least_at_one s list rule is least = record { is = is; least = go }
  where
    go : (r p : ℕ) → BreaksReferenceRule s list r p → (1 < p) ⊎ ((1 ≡ p) × (rule ≤ r))
    go r zero h = let low = (first_place s list r zero h).0 in absurd (omega (arith, low))
    go r (suc zero) h = inr (refl, least r h)
    go r (suc (suc p)) h = inl (omega arith)

pub refused_at_one : (s : Classes) (b : List ℕ) (sheet : SheetData) → IsSheetOf b sheet → RecordsHold s b → (rule : ℕ) → BreaksReferenceRule s sheet.list rule 1 → ((r : ℕ) → BreaksReferenceRule s sheet.list r 1 → rule ≤ r)
    → IsRefusal s b (Entry rule 1)
refused_at_one s b sheet states records rule is least = reference_refusal s b rule 1 records sheet states (least_at_one s sheet.list rule is least)

-- a record whose class is none of the schema's
pub unknown_first : (s : Classes) (list : List Record) (r : Record) (rest : List Record) → list ≡ r ∷ rest → place_of s r.scp ≡ None → BreaksReferenceRule s list 302 1
unknown_first s list r rest e none = lacks_class refl (r, (omega arith, ap (λ l. slice_get l 0) e), none)

pub unknown_least : (s : Classes) (list : List Record) (r : ℕ) → BreaksReferenceRule s list r 1 → 302 ≤ r
unknown_least s list r h = (first_place s list r 1 h).1 refl

-- ---- a link that comes first

any_absurd : {X : Type 0} (P : X → Type 0) (xs : List X) → AllByRecursion (λ x. ¬ (P x)) xs → Any P xs → ⊥
any_absurd P [] all h = let low = h.2 in omega (arith, low)
any_absurd {X} P (y ∷ xs) all h = go h.0 h.1 h.2 h.3 h.4 (any_absurd P xs all.1)
  where
    go : (k : ℕ) (x : X) → k < length (y ∷ xs) → get_or (y ∷ xs) k x ≡ x → P x → (Any P xs → ⊥) → ⊥
    go zero x low is p more = all.0 (subst P (sym is) p)
    go (suc k) x low is p more = more (k, x, omega (arith, low), is, p)

module _ (s : Classes) (list : List Record) (r : Record) (rest : List Record) (is : list ≡ r ∷ rest) where
  -- the first record is r
  pub first_is : (q : Record) → IsRecordAt s list 1 q → r ≡ q
  first_is q h = same_Some r q (sym (ap (λ l. slice_get l 0) is) ∙ h.1)

  here : IsRecordAt s list 1 r
  here = (omega arith, ap (λ l. slice_get l 0) is)

  -- nothing before 306 is broken there, where its class is known, it has no attributes, and its ends are records that are no links
  pub link_least : (k : ℕ) → place_of s r.scp ≡ Some k → r.attributes ≡ [] → (lot subset : List ℕ) → ((e : EndData) (others : List EndData) → Rattle.std.specs.Prelude.flat_map (λ q. q.ends) list ≡ e ∷ others → (e.lot ≡ lot) × (e.subset ≡ subset))
      → AllByRecursion (λ e. (e.lot ≡ lot) × (e.subset ≡ subset)) r.ends
      → AllByRecursion (λ e. (place : ℕ) × (kind : Kind) × Names s list e place kind × (kind ≢ Lnk)) r.ends → (rule : ℕ) → BreaksReferenceRule s list rule 1 → 306 ≤ rule
  link_least k known bare lot subset first all ends rule (repeats_name e h) = let less = h.3 in let low = h.4.0 in absurd (omega (arith, less, low))
  link_least k known bare lot subset first all ends rule (lacks_class e h) = absurd (none-some k (sym h.2 ∙ (ap (λ q. place_of s q.scp) (sym (first_is h.0 h.1)) ∙ known)))
  link_least k known bare lot subset first all ends rule (lacks_attribute_class e h) =
      absurd (any_absurd (λ a. (a.atp.rty ≢ codes "ATT") ⊎ (place_of s a.atp ≡ None)) [] tt
      (subst (λ l. Any (λ a. (a.atp.rty ≢ codes "ATT") ⊎ (place_of s a.atp ≡ None)) l) (ap (λ q. q.attributes) (sym (first_is h.0 h.1)) ∙ bare) h.2))
  link_least k known bare lot subset first all ends rule (leaves_subset e h) =
      let top = first h.1 h.2 h.4 in
      absurd (any_absurd (λ d. (d.lot ≢ h.1.lot) ⊎ (d.subset ≢ h.1.subset)) r.ends (same_all r.ends all h.1 top)
      (subst (λ q. Any (λ d. (d.lot ≢ h.1.lot) ⊎ (d.subset ≢ h.1.subset)) q.ends) (sym (first_is h.0 h.3)) h.5))
    where
      same_all : (es : List EndData) → AllByRecursion (λ e. (e.lot ≡ lot) × (e.subset ≡ subset)) es → (d : EndData) → (d.lot ≡ lot) × (d.subset ≡ subset)
          → AllByRecursion (λ e. ¬ ((e.lot ≢ d.lot) ⊎ (e.subset ≢ d.subset))) es
      same_all [] none d top = tt
      same_all (x ∷ es) some d top = (one, same_all es some.1 d top)
        where
          one : ((x.lot ≢ d.lot) ⊎ (x.subset ≢ d.subset)) → ⊥
          one (inl other) = other (some.0.0 ∙ sym top.0)
          one (inr other) = other (some.0.1 ∙ sym top.1)
  link_least k known bare lot subset first all ends rule (names_nothing e h) =
      absurd (any_absurd (λ d. (place : ℕ) (kind : Kind) → Names s list d place kind → kind ≡ Lnk) r.ends (each r.ends ends)
      (subst (λ q. Any (λ d. (place : ℕ) (kind : Kind) → Names s list d place kind → kind ≡ Lnk) q.ends) (sym (first_is h.0 h.1)) h.2))
    where
      each : (es : List EndData) → AllByRecursion (λ e. (place : ℕ) × (kind : Kind) × Names s list e place kind × (kind ≢ Lnk)) es
          → AllByRecursion (λ e. ¬ ((place : ℕ) (kind : Kind) → Names s list e place kind → kind ≡ Lnk)) es
      each [] none = tt
      each (x ∷ es) some = (λ only. some.0.3 (only some.0.0 some.0.1 some.0.2), each es some.1)
  link_least k known bare lot subset first all ends rule (joins_wrong e h) = omega (arith, e)
  link_least k known bare lot subset first all ends rule (repeats_side e h) = omega (arith, e)

  -- 306 is broken there by a link of a kind that joins no arc with what its kind asks for
  pub wrong_first : (role : Role) → r.kind ≡ Lnk → role_named s r.scp ≡ Some role → is_plain role ≡ false → ¬ (JoinsArcTo s list (beside role) r) → BreaksReferenceRule s list 306 1
  wrong_first Initial link has kind wrong = joins_wrong refl (r, here, inl (inl (link, has), wrong))
  wrong_first Final link has kind wrong = joins_wrong refl (r, here, inl (inr (link, has), wrong))
  wrong_first Left link has kind wrong = joins_wrong refl (r, here, inr (inl (link, has), wrong))
  wrong_first Right link has kind wrong = joins_wrong refl (r, here, inr (inr (link, has), wrong))
  wrong_first Plain link has kind wrong = absurd (true≢false kind)

  -- and isn't by another
  one_role : (role other : Role) (q : Record) → r ≡ q → role_named s r.scp ≡ Some role → IsLinkOfRole s list q other → role ≡ other
  one_role role other q e has link = same_Some role other (sym has ∙ (ap (λ x. role_named s x.scp) e ∙ link.1))

  right_join : (role : Role) → role_named s r.scp ≡ Some role → (is_plain role ≡ false → JoinsArcTo s list (beside role) r) → JoinsWrong s list 1 → ⊥
  right_join role has joins (q, at, inl (inl link, wrong)) =
      let e = one_role role Initial q (first_is q at) has link in
      wrong (subst (λ x. JoinsArcTo s list Pno x) (first_is q at) (subst (λ x. JoinsArcTo s list (beside x) r) e (joins (ap is_plain e))))
  right_join role has joins (q, at, inl (inr link, wrong)) =
      let e = one_role role Final q (first_is q at) has link in
      wrong (subst (λ x. JoinsArcTo s list Pno x) (first_is q at) (subst (λ x. JoinsArcTo s list (beside x) r) e (joins (ap is_plain e))))
  right_join role has joins (q, at, inr (inl link, wrong)) =
      let e = one_role role Left q (first_is q at) has link in
      wrong (subst (λ x. JoinsArcTo s list Pfe x) (first_is q at) (subst (λ x. JoinsArcTo s list (beside x) r) e (joins (ap is_plain e))))
  right_join role has joins (q, at, inr (inr link, wrong)) =
      let e = one_role role Right q (first_is q at) has link in
      wrong (subst (λ x. JoinsArcTo s list Pfe x) (first_is q at) (subst (λ x. JoinsArcTo s list (beside x) r) e (joins (ap is_plain e))))

  pub not_wrong : (role : Role) → role_named s r.scp ≡ Some role → (is_plain role ≡ false → JoinsArcTo s list (beside role) r) → BreaksReferenceRule s list 306 1 → ⊥
  not_wrong role has joins (repeats_name e h) = absurd (omega (arith, e))
  not_wrong role has joins (lacks_class e h) = absurd (omega (arith, e))
  not_wrong role has joins (lacks_attribute_class e h) = absurd (omega (arith, e))
  not_wrong role has joins (leaves_subset e h) = absurd (omega (arith, e))
  not_wrong role has joins (names_nothing e h) = absurd (omega (arith, e))
  not_wrong role has joins (joins_wrong e h) = right_join role has joins h
  not_wrong role has joins (repeats_side e h) = absurd (omega (arith, e))
