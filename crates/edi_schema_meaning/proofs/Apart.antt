-- Two schemas that answer alike name the same classes, and their kinds differ in sides at most.
use Rattle.std.proofs.Common.{◌≡◌, ◌≢◌, ◌⊎◌, inl, inr, ℕ, zero, suc, ◌-◌, ◌<◌, ◌≤◌, true, false, ◌&&◌, true≢false, List, [], ◌∷◌, Option, Some, None, codes, slice_get, refl, sym, ap, ◌∙◌, subst, arith, lit≤, lit<}
use Rattle.std.specs.Prelude.{is_some, pos}
use Rattle.std.proofs.lemmas.Option.{none-some, same_Some}
use Rattle.edi_line.specs.Refusal.{IsUnbroken}
use Rattle.edi_record.specs.Shapes.{kind_rank}
use Rattle.edi_record.specs.declared.name.Name.{Name}
use Rattle.edi_record.specs.LinkEnds.{EndData}
use Rattle.edi_record.specs.declared.record.Kind.{Kind}
use Rattle.edi_record.specs.declared.record.Kind.TheVariants.{Pno, Par, Pfe, Lnk}
use Rattle.edi_record.specs.declared.record.Record.{Record}
use Rattle.edi_record.specs.Records.{SheetData}
use Rattle.edi_schema.specs.Classes.{Classes, place_of, role_named}
use Rattle.edi_schema.specs.Roles.{is_plain}
use Rattle.edi_schema.specs.declared.role.Role.{Role}
use Rattle.edi_schema.specs.declared.role.Role.TheVariants.{Initial, Final, Left, Right, Plain}
use Rattle.edi_plan.specs.Joined.{beside}
use Rattle.edi_plan.specs.PlanOf.{place_named}
use Rattle.edi_plan.specs.Plans.{PlanData, IsPlace, record_at}
use Rattle.edi_plan.specs.ReferenceRules.{BreaksReferenceRule, JoinsArcTo, Names}
use Rattle.edi_plan.specs.ReferenceRules.BreaksReferenceRule.{repeats_name, lacks_class, lacks_attribute_class, leaves_subset, names_nothing, joins_wrong, repeats_side}
use Rattle.edi_plan.specs.Sides.{Side}
use Rattle.edi_plan.specs.inner.Resolving.{is_elsewhere}
use Rattle.edi_plan.specs.declared.record.PlanRecord.{PlanRecord}
use Rattle.edi_topo.proofs.AtPlaces.{BreaksOfArc, breaks_of_arc, breaks_of_node, first_is_least, none_is_broken}
use Rattle.edi_topo.proofs.AtPlaces.BreaksOfArc.{starts, ends, reverses, repeats}
use Rattle.edi_topo.specs.TopologyRules.{BreaksTopologyRule, EndsElsewhere}
use Rattle.edi_topo.specs.TopologyRules.BreaksTopologyRule.{ends_elsewhere}
use Rattle.edi_rank.specs.EqualObjects.{BreaksObjectRule}
use Rattle.edi_rank.specs.EqualObjects.BreaksObjectRule.{repeats_object}
use Rattle.edi_compare.proofs.KnownSheetsReferences.{Refer, references_as}
use Rattle.edi_compare.proofs.KnownSheetsTests.{none_is}
use Rattle.edi_compare.proofs.Phases.{all_held, references_held, topology_held, topology_refusal}
use Rattle.edi_compare.specs.PlanOfFile.{IsPlanOfFile, IsSheetOf}
use Rattle.edi_compare.specs.Refused.{IsRefusal}
use Rattle.edi_compare.specs.Rules.{IsAccepted, RecordsHold, ReferencesHold}
use Rattle.edi_compare.specs.declared.fault.Fault.TheVariants.{Entry}
use Rattle.edi_schema_meaning.proofs.Probing.{CanBeRead, IsPlainName, bare_arc, bare_link, bare_node, probe_records, probe_sheet}
use Rattle.edi_schema_meaning.proofs.Told.{first_is, link_least, not_wrong, place_none, place_some, reference_back, refused_at_one, topology_back, unknown_first, unknown_least, wrong_first}
use Rattle.edi_schema_meaning.specs.Probes.{arc_of, end_at, join_records, link_of, loop_records, node_of, node_records, plain_letters, probe, spot, start_records}

-- what an end names is one record
names_one : (s : Classes) (list : List Record) (e : EndData) (place k : ℕ) (kind : Kind) (q : Record) → place_named list e.target ≡ Some k → slice_get list k ≡ Some q → Names s list e place kind → q.kind ≡ kind
names_one s list e place k kind q named there h =
    let at : k ≡ place = same_Some k place (sym named ∙ h.1) in
    let one : q ≡ h.0 = same_Some q h.0 (sym there ∙ (ap (slice_get list) at ∙ h.2)) in
    ap (λ r. r.kind) one ∙ h.3

-- 302 is not broken where the class is known
not_unknown : (s : Classes) (list : List Record) (r : Record) (rest : List Record) (is : list ≡ r ∷ rest) (k : ℕ) → place_of s r.scp ≡ Some k → BreaksReferenceRule s list 302 1 → ⊥
not_unknown s list r rest is k known (repeats_name e h) = omega (arith, e)
not_unknown s list r rest is k known (lacks_class e h) = none-some k (sym h.2 ∙ (ap (λ q. place_of s q.scp) (sym (first_is s list r rest is h.0 h.1)) ∙ known))
not_unknown s list r rest is k known (lacks_attribute_class e h) = omega (arith, e)
not_unknown s list r rest is k known (leaves_subset e h) = omega (arith, e)
not_unknown s list r rest is k known (names_nothing e h) = omega (arith, e)
not_unknown s list r rest is k known (joins_wrong e h) = omega (arith, e)
not_unknown s list r rest is k known (repeats_side e h) = omega (arith, e)

-- one record repeats no object
pub lone : (cse : Option (List ℕ)) (q : PlanRecord) → IsUnbroken (BreaksObjectRule (record { cse = cse; list = q ∷ [] }))
lone cse q rule at (repeats_object e a less h) = let second = h.second in omega (arith, less, second)

head_same : (a b c d : EndData) → a ∷ b ∷ [] ≡ c ∷ d ∷ [] → (a ≡ c) × (b ≡ d)
head_same a b c d h = (cc, cc)

front_same : (a c : EndData) (xs ys : List EndData) → a ∷ xs ≡ c ∷ ys → a ≡ c
front_same a c xs ys h = cc

node_arc : Pno ≡ Par → ⊥
node_arc h = omega (arith, ap kind_rank h)

node_face : Pno ≡ Pfe → ⊥
node_face h = omega (arith, ap kind_rank h)

arc_face : Par ≡ Pfe → ⊥
arc_face h = omega (arith, ap kind_rank h)

node_link : Pno ≡ Lnk → ⊥
node_link h = omega (arith, ap kind_rank h)

arc_link : Par ≡ Lnk → ⊥
arc_link h = omega (arith, ap kind_rank h)

module _ (n : Name) (plain : IsPlainName n) where
  can_node : CanBeRead plain_letters (node_of n (codes "N") [])
  can_node = bare_node plain_letters n plain (codes "N") refl (none_is 10 (codes "N") refl)

  can_arc : CanBeRead plain_letters (arc_of n (codes "A"))
  can_arc = bare_arc plain_letters n plain (codes "A") refl (none_is 10 (codes "A") refl)

  can_loop : CanBeRead plain_letters (link_of n (codes "L") (end_at Pno (codes "N")) (end_at Pno (codes "N")))
  can_loop = bare_link plain_letters n plain (codes "L") Pno Pno (codes "N") (codes "N") refl (none_is 10 (codes "L") refl) refl (none_is 10 (codes "N") refl) refl (none_is 10 (codes "N") refl)

  can_join : CanBeRead plain_letters (link_of n (codes "L") (end_at Par (codes "A")) (end_at Pno (codes "N")))
  can_join = bare_link plain_letters n plain (codes "L") Par Pno (codes "A") (codes "N") refl (none_is 10 (codes "L") refl) refl (none_is 10 (codes "A") refl) refl (none_is 10 (codes "N") refl)

  -- ---- a class that one schema alone has

  node_sheet : SheetData
  node_sheet = record { cse = None; list = node_records n }

  node_stated : IsSheetOf (probe (node_records n)) node_sheet
  unfolding node_sheet
  node_stated = probe_sheet (node_records n) (can_node, tt) (lit≤ tt) node_sheet refl refl

  node_read : (s : Classes) → RecordsHold s (probe (node_records n))
  node_read s = probe_records (node_records n) (can_node, tt) (lit≤ tt) s

  pub node_refused : (s : Classes) → role_named s n ≡ None → IsRefusal s (probe (node_records n)) (Entry 302 1)
  unfolding node_sheet
  node_refused s none =
      refused_at_one s (probe (node_records n)) node_sheet node_stated (node_read s) 302
      (unknown_first s (node_records n) (node_of n (codes "N") []) [] refl (place_none s n none)) (unknown_least s (node_records n))

  pub node_not_refused : (s : Classes) (role : Role) → role_named s n ≡ Some role → IsRefusal s (probe (node_records n)) (Entry 302 1) → ⊥
  unfolding node_sheet
  node_not_refused s role has h =
      let known = place_some s n role has in
      not_unknown s (node_records n) (node_of n (codes "N") []) [] refl known.0 known.1
      (reference_back s (probe (node_records n)) node_sheet node_stated (node_read s) 302 1 (lit< tt) h.1.is)

  -- it is accepted where the class is known
  node_plan : ℕ → Role → PlanData
  node_plan k role = record { cse = None; list = record { kind = Pno; class = k; role = role; points = spot 0 0 ∷ []; attributes = []; extras = []; ends = [] } ∷ [] }

  pub node_accepted : (s : Classes) (role : Role) → role_named s n ≡ Some role → IsAccepted s (probe (node_records n))
  unfolding node_sheet node_plan
  node_accepted s role has =
      let known = place_some s n role has in
      let b = probe (node_records n) in
      let p = node_plan known.0 role in
      let references : ReferencesHold s b =
      references_held s b (node_read s) node_sheet node_stated
      (references_as s (node_records n) (record { names = refl; classes = ap (λ o. is_some o && true) known.1; attributes = refl; subsets = refl; ends = refl; joins = refl; kinds = refl })) in
      let states : IsPlanOfFile s b p =
      (node_sheet, node_stated, record { set = refl; each = (record { kind = refl; class = known.1; role = has; points = refl; attributes = tt; extras = refl; ends = tt }, tt) }) in
      let topology : IsUnbroken (BreaksTopologyRule p) =
      none_is_broken p 1 (λ k h. h) (λ k low rule broken.
      let at : k ≡ 0 = omega (arith, low) in
      let early = (breaks_of_node p 0 refl rule (subst (λ j. BreaksTopologyRule p rule (suc j)) at broken)).1.1 in omega (arith, early)) in
      all_held s b (topology_held s b references p states topology) p states (lone p.cse (record { kind = Pno; class = known.0; role = role; points = spot 0 0 ∷ []; attributes = []; extras = []; ends = [] }))

  -- ---- a class of a kind, and of none

  loop_sheet : SheetData
  loop_sheet = record { cse = None; list = loop_records n }

  loop_stated : IsSheetOf (probe (loop_records n)) loop_sheet
  unfolding loop_sheet
  loop_stated = probe_sheet (loop_records n) (can_loop, (can_node, tt)) (lit≤ tt) loop_sheet refl refl

  loop_read : (s : Classes) → RecordsHold s (probe (loop_records n))
  loop_read s = probe_records (loop_records n) (can_loop, (can_node, tt)) (lit≤ tt) s

  -- it joins no arc
  loop_joins : (s : Classes) (kind : Kind) → JoinsArcTo s (loop_records n) kind (link_of n (codes "L") (end_at Pno (codes "N")) (end_at Pno (codes "N"))) → ⊥
  loop_joins s kind h = node_arc (names_one s (loop_records n) (end_at Pno (codes "N")) h.2 1 Par (node_of n (codes "N") []) refl refl (subst (λ e. Names s (loop_records n) e h.2 Par) (sym (first h.4)) h.5))
    where
      first : ((end_at Pno (codes "N") ∷ end_at Pno (codes "N") ∷ [] ≡ h.0 ∷ h.1 ∷ []) ⊎ (end_at Pno (codes "N") ∷ end_at Pno (codes "N") ∷ [] ≡ h.1 ∷ h.0 ∷ [])) → end_at Pno (codes "N") ≡ h.0
      first (inl e) = (head_same _ _ _ _ e).0
      first (inr e) = (head_same _ _ _ _ e).1

  pub loop_refused : (s : Classes) (role : Role) → role_named s n ≡ Some role → is_plain role ≡ false → IsRefusal s (probe (loop_records n)) (Entry 306 1)
  unfolding loop_sheet
  loop_refused s role has kind =
      let known = place_some s n role has in
      let list = loop_records n in
      let e = end_at Pno (codes "N") in
      let r = link_of n (codes "L") e e in
      let rest = node_of n (codes "N") [] ∷ [] in
      let named : (place : ℕ) × (k : Kind) × Names s list e place k × (k ≢ Lnk) = (1, Pno, (node_of n (codes "N") [], refl, refl, refl), node_link) in
      refused_at_one s (probe list) loop_sheet loop_stated (loop_read s) 306
      (wrong_first s list r rest refl role refl has kind (loop_joins s (beside role)))
      (link_least s list r rest refl known.0 known.1 refl (codes "CANON") (codes "S") (λ d others h. let same = front_same e d _ _ h in (ap (λ x. x.lot) (sym same), ap (λ x. x.subset) (sym same)))
      ((refl, refl), ((refl, refl), tt)) (named, (named, tt)))

  pub loop_not_refused : (s : Classes) → role_named s n ≡ Some Plain → IsRefusal s (probe (loop_records n)) (Entry 306 1) → ⊥
  unfolding loop_sheet
  loop_not_refused s has h =
      let list = loop_records n in
      let e = end_at Pno (codes "N") in
      not_wrong s list (link_of n (codes "L") e e) (node_of n (codes "N") [] ∷ []) refl Plain has (λ kind. absurd (true≢false kind))
      (reference_back s (probe list) loop_sheet loop_stated (loop_read s) 306 1 (lit< tt) h.1.is)

  -- ---- a kind of nodes, and one of faces

  join_sheet : SheetData
  join_sheet = record { cse = None; list = join_records n }

  join_stated : IsSheetOf (probe (join_records n)) join_sheet
  unfolding join_sheet
  join_stated = probe_sheet (join_records n) (can_join, (can_arc, (can_node, tt))) (lit≤ tt) join_sheet refl refl

  join_read : (s : Classes) → RecordsHold s (probe (join_records n))
  join_read s = probe_records (join_records n) (can_join, (can_arc, (can_node, tt))) (lit≤ tt) s

  -- it joins no arc with a face
  join_faces : (s : Classes) → JoinsArcTo s (join_records n) Pfe (link_of n (codes "L") (end_at Par (codes "A")) (end_at Pno (codes "N"))) → ⊥
  join_faces s h = go h.4
    where
      go : ((end_at Par (codes "A") ∷ end_at Pno (codes "N") ∷ [] ≡ h.0 ∷ h.1 ∷ []) ⊎ (end_at Par (codes "A") ∷ end_at Pno (codes "N") ∷ [] ≡ h.1 ∷ h.0 ∷ [])) → ⊥
      go (inl e) = node_face (names_one s (join_records n) (end_at Pno (codes "N")) h.3 2 Pfe (node_of n (codes "N") []) refl refl (subst (λ e. Names s (join_records n) e h.3 Pfe) (sym (head_same _ _ _ _ e).1) h.6))
      go (inr e) = arc_face (names_one s (join_records n) (end_at Par (codes "A")) h.3 1 Pfe (arc_of n (codes "A")) refl refl (subst (λ e. Names s (join_records n) e h.3 Pfe) (sym (head_same _ _ _ _ e).0) h.6))

  pub join_refused : (s : Classes) (role : Role) → role_named s n ≡ Some role → is_plain role ≡ false → beside role ≡ Pfe → IsRefusal s (probe (join_records n)) (Entry 306 1)
  unfolding join_sheet
  join_refused s role has kind face =
      let known = place_some s n role has in
      let list = join_records n in
      let a = end_at Par (codes "A") in
      let e = end_at Pno (codes "N") in
      let r = link_of n (codes "L") a e in
      let rest = arc_of n (codes "A") ∷ node_of n (codes "N") [] ∷ [] in
      refused_at_one s (probe list) join_sheet join_stated (join_read s) 306
      (wrong_first s list r rest refl role refl has kind (λ h. join_faces s (subst (λ k. JoinsArcTo s list k r) face h)))
      (link_least s list r rest refl known.0 known.1 refl (codes "CANON") (codes "S") (λ d others h. let same = front_same a d _ _ h in (ap (λ x. x.lot) (sym same), ap (λ x. x.subset) (sym same)))
      ((refl, refl), ((refl, refl), tt))
      ((1, Par, (arc_of n (codes "A"), refl, refl, refl), arc_link), ((2, Pno, (node_of n (codes "N") [], refl, refl, refl), node_link), tt)))

  pub join_not_refused : (s : Classes) (role : Role) → role_named s n ≡ Some role → beside role ≡ Pno → IsRefusal s (probe (join_records n)) (Entry 306 1) → ⊥
  unfolding join_sheet
  join_not_refused s role has nodes h =
      let list = join_records n in
      let a = end_at Par (codes "A") in
      let e = end_at Pno (codes "N") in
      let r = link_of n (codes "L") a e in
      let joins : JoinsArcTo s list Pno r = (a, e, 1, 2, inl refl, (arc_of n (codes "A"), refl, refl, refl), (node_of n (codes "N") [], refl, refl, refl)) in
      not_wrong s list r (arc_of n (codes "A") ∷ node_of n (codes "N") [] ∷ []) refl role has (λ kind. subst (λ k. JoinsArcTo s list k r) (sym nodes) joins)
      (reference_back s (probe list) join_sheet join_stated (join_read s) 306 1 (lit< tt) h.1.is)

  -- ---- initial nodes, and final ones

  start_sheet : SheetData
  start_sheet = record { cse = None; list = start_records n }

  start_stated : IsSheetOf (probe (start_records n)) start_sheet
  unfolding start_sheet
  start_stated = probe_sheet (start_records n) (can_arc, (can_node, (can_join, tt))) (lit≤ tt) start_sheet refl refl

  start_read : (s : Classes) → RecordsHold s (probe (start_records n))
  start_read s = probe_records (start_records n) (can_arc, (can_node, (can_join, tt))) (lit≤ tt) s

  start_plan : ℕ → Role → PlanData
  start_plan k role = record {
    cse = None;
    list = record { kind = Par; class = k; role = role; points = spot 0 0 ∷ spot 1 0 ∷ []; attributes = []; extras = []; ends = [] }
        ∷ record { kind = Pno; class = k; role = role; points = spot 0 0 ∷ []; attributes = []; extras = []; ends = [] }
        ∷ record { kind = Lnk; class = k; role = role; points = []; attributes = []; extras = []; ends = record { target = 0; sns = None } ∷ record { target = 1; sns = None } ∷ [] }
        ∷ [];
  }

  start_refers : (role : Role) (s : Classes) → beside role ≡ Pno → role_named s n ≡ Some role → (k : ℕ) → place_of s n ≡ Some k → Refer s (start_records n)
  unfolding is_elsewhere
  start_refers Initial s e has k known = record {
    names = refl;
    classes = ap (λ o. is_some o && (is_some o && (is_some o && true))) known;
    attributes = refl;
    subsets = refl;
    ends = refl;
    joins = rw has refl;
    kinds = refl;
  }
  start_refers Final s e has k known = record {
    names = refl;
    classes = ap (λ o. is_some o && (is_some o && (is_some o && true))) known;
    attributes = refl;
    subsets = refl;
    ends = refl;
    joins = rw has refl;
    kinds = refl;
  }
  start_refers Left s e has k known = absurd (node_face (sym e))
  start_refers Right s e has k known = absurd (node_face (sym e))
  start_refers Plain s e has k known = absurd (node_link (sym e))

  start_held : (s : Classes) (role : Role) → beside role ≡ Pno → role_named s n ≡ Some role → ReferencesHold s (probe (start_records n))
  unfolding start_sheet
  start_held s role e has =
      let known = place_some s n role has in
      references_held s (probe (start_records n)) (start_read s) start_sheet start_stated (references_as s (start_records n) (start_refers role s e has known.0 known.1))

  start_states : (s : Classes) (role : Role) (k : ℕ) → place_of s n ≡ Some k → role_named s n ≡ Some role → IsPlanOfFile s (probe (start_records n)) (start_plan k role)
  unfolding start_sheet start_plan
  start_states s role k known has = (
    start_sheet,
    start_stated,
    record {
      set = refl;
      each = (
        record { kind = refl; class = known; role = has; points = refl; attributes = tt; extras = refl; ends = tt },
        (
          record { kind = refl; class = known; role = has; points = refl; attributes = tt; extras = refl; ends = tt },
          (record { kind = refl; class = known; role = has; points = refl; attributes = tt; extras = refl; ends = (record { target = refl; sns = refl }, (record { target = refl; sns = refl }, tt)) }, tt),
        ),
      );
    },
  )

  start_roles : (k : ℕ) (role : Role) (i : ℕ) → IsPlace (start_plan k role) i → (record_at (start_plan k role) i).role ≡ role
  unfolding start_plan
  start_roles k role zero h = refl
  start_roles k role (suc zero) h = refl
  start_roles k role (suc (suc zero)) h = refl
  start_roles k role (suc (suc (suc i))) h = absurd (omega (arith, h))

  -- a side by another role than that of the link is none
  other_side : (k : ℕ) (role other : Role) (a x : ℕ) → Side (start_plan k role) a other x → role ≡ other
  other_side k role other a x side = sym (start_roles k role side.link side.there) ∙ side.has_role

  pub start_refused : (s : Classes) → role_named s n ≡ Some Final → IsRefusal s (probe (start_records n)) (Entry 402 1)
  unfolding start_plan
  start_refused s has =
      let known = place_some s n Final has in
      let b = probe (start_records n) in
      let p = start_plan known.0 Final in
      let side : Side p 0 Final 1 = record { link = 2; there = lit< tt; is_link = refl; has_role = refl; not_plain = final_plain; arc_there = lit< tt; is_arc = refl; ends = inl refl } in
      let ends_at : EndsElsewhere p 1 = (0, 1, spot 1 0, spot 0 0, spot 0 0 ∷ [], refl, (lit< tt, refl, refl), side, (lit< tt, refl, refl), spots) in
      topology_refusal s b 402 1 (start_held s Final refl has) p (start_states s Final known.0 known.1 has)
      (first_is_least p 0 402 (record { is = ends_elsewhere refl ends_at; least = λ rule broken. least rule (breaks_of_arc p 0 refl rule broken) }) (λ k low. absurd (omega (arith, low))))
    where
      final_plain : Final ≢ Plain
      final_plain h = cc

      spots : spot 0 0 ≢ spot 1 0
      spots h = let e : pos 0 ≡ pos 1 = ap (λ q. q.x) h in absurd (omega (arith, Rattle.std.proofs.Common.ap (λ z. Rattle.edi_line.specs.Number.size_of z) e))

      least : (rule : ℕ) → BreaksOfArc (start_plan (place_some s n Final has).0 Final) 0 rule → 402 ≤ rule
      least rule (starts e h) = absurd (initial_final (other_side (place_some s n Final has).0 Final Initial h.0 h.1 h.7))
        where
          initial_final : Final ≡ Initial → ⊥
          initial_final g = cc
      least rule (ends e h) = omega (arith, e)
      least rule (reverses e h) = omega (arith, e)
      least rule (repeats e h) = omega (arith, e)

  pub start_not_refused : (s : Classes) → role_named s n ≡ Some Initial → IsRefusal s (probe (start_records n)) (Entry 402 1) → ⊥
  unfolding start_sheet start_plan
  start_not_refused s has h =
      let known = place_some s n Initial has in
      let p = start_plan known.0 Initial in
      go known.0 (breaks_of_arc p 0 refl 402 (topology_back s (probe (start_records n)) start_sheet start_stated (start_held s Initial refl has) p (start_states s Initial known.0 known.1 has) 402 1 (lit< tt) h.1.is))
    where
      initial_final : Initial ≡ Final → ⊥
      initial_final g = cc

      go : (k : ℕ) → BreaksOfArc (start_plan k Initial) 0 402 → ⊥
      go k (starts e x) = omega (arith, e)
      go k (ends e x) = initial_final (other_side k Initial Final x.0 x.1 x.7)
      go k (reverses e x) = omega (arith, e)
      go k (repeats e x) = omega (arith, e)
