-- The known sheets of an arc between two nodes are accepted.
use Rattle.std.proofs.Common.{◌≡◌, ◌≢◌, ◌∙◌, sym, subst, ap, refl, ℕ, suc, ◌<◌, ◌⊎◌, inl, inr, true, not, ◌||◌, List, [], ◌∷◌, ◌++◌, arith, lit≤, reverse}
use Rattle.std.specs.Prelude.{nat_eq}
use Rattle.edi_line.specs.Refusal.{IsUnbroken}
use Rattle.edi_record.specs.declared.record.Kind.TheVariants.{Pno, Par, Fea, Lnk}
use Rattle.edi_record.specs.declared.record.Point.{Point}
use Rattle.edi_schema.specs.Roles.{same_role}
use Rattle.edi_schema.specs.declared.role.Role.{Role}
use Rattle.edi_schema.specs.declared.role.Role.TheVariants.{Initial, Final, Left, Right, Plain}
use Rattle.edi_plan.specs.Plans.{PlanData, IsPlace, record_at, same_kind}
use Rattle.edi_plan.specs.Sides.{Side, targets}
use Rattle.edi_plan.specs.inner.Resolving.{is_elsewhere}
use Rattle.edi_plan.proofs.Built.{plans_whole, plans_agreeing}
use Rattle.edi_topo.specs.TopologyRules.{BreaksTopologyRule, StartsElsewhere, EndsElsewhere}
use Rattle.edi_topo.proofs.AtPlaces.{broken_place, breaks_of_node, breaks_of_arc, breaks_of_face, breaks_of_other, BreaksOfArc}
use Rattle.edi_topo.proofs.AtPlaces.BreaksOfArc.{starts, ends, reverses, repeats}
use Rattle.edi_rank.specs.EqualObjects.{BreaksObjectRule}
use Rattle.edi_rank.specs.Laws.{IsPlanUnder}
use Rattle.edi_rank.specs.Same.{Same}
use Rattle.edi_rank.proofs.Preserved.{topology_preserved}
use Rattle.edi_rank.proofs.ObjectsPreserved.{objects_preserved}
use Rattle.edi_rank.specs.EqualObjects.BreaksObjectRule.{repeats_object}
use Rattle.edi_compare.specs.Known.{arc_classes, arc_plan, position, turned_arc_sheet, turned_arc_plan, exchanged_sheet, exchanged_plan, reversed_arc_sheet, reversed_arc_plan}
use Rattle.edi_compare.specs.Rules.{IsAccepted, ReferencesHold}
use Rattle.edi_compare.proofs.Headline.{plan_under, plan_joined}
use Rattle.edi_compare.proofs.KnownSheetsPaired.{arc_carries}
use Rattle.edi_compare.proofs.KnownSheetsTests.{below, all_below, only_one, points_differ}
use Rattle.edi_compare.proofs.KnownSheetsReferences.{references_as}
use Rattle.edi_compare.proofs.KnownSheetsSchema.{arc_schema}
use Rattle.edi_compare.proofs.KnownSheetsStated.{arc_sheet, arc_states_sheet, arc_records_hold, arc_states, exchanged_records, exchanged_states_sheet, exchanged_records_hold, exchanged_states, reversed_records, reversed_states_sheet, reversed_records_hold, reversed_states}
use Rattle.edi_compare.proofs.Phases.{sheet_whole, references_held, topology_held, all_held}

-- a link to a face
abbrev IsSide : Role → Type 0
IsSide role = (role ≡ Left) ⊎ (role ≡ Right)

-- whatever the classes of the links to the faces, and on whichever sides they are
module _ (f_class : ℕ) (f_role : Role) (g_class : ℕ) (g_role : Role) where
  abbrev p : PlanData
  p = arc_plan f_class f_role g_class g_role

  abbrev IsOnly : Role → ℕ → Type 0
  IsOnly role place = all_below 12 (λ k. not (same_role (record_at p k).role role) || nat_eq k place) ≡ true

  abbrev Unbroken : ℕ → Type 0
  Unbroken k = (rule : ℕ) → BreaksTopologyRule p rule (suc k) → ⊥

  module _ (initial_one : IsOnly Initial 6) (final_one : IsOnly Final 7) (f_side : IsSide f_role) (g_side : IsSide g_role) where
    -- ---- the nodes

    first_node : Unbroken 0
    first_node rule h = let broken = breaks_of_node p 0 refl rule h in let early = broken.1.1 in omega (arith, early)

    second_node : Unbroken 1
    second_node rule h =
        let broken = (breaks_of_node p 1 refl rule h).1 in
        let early = broken.1 in
        let zero_is : broken.0 ≡ 0 = omega (arith, early) in
        points_differ (position 0 0 ∷ []) (position 1000000 0 ∷ []) refl refl (sym (subst (λ m. (record_at p m).points ≡ (record_at p 1).points) zero_is broken.2.points))

    -- ---- the arc

    -- an arc is this one
    the_arc : (a : ℕ) → IsPlace p a → (record_at p a).kind ≡ Par → a ≡ 2
    the_arc a h is = only_one 12 (λ k. same_kind (record_at p k).kind Par) 2 refl a h (ap (λ k. same_kind k Par) is)

    -- a link to it that begins or ends it is the only one
    the_initial : (k : ℕ) → IsPlace p k → (record_at p k).role ≡ Initial → k ≡ 6
    the_initial k h is = only_one 12 (λ j. same_role (record_at p j).role Initial) 6 initial_one k h (ap (λ r. same_role r Initial) is)

    the_final : (k : ℕ) → IsPlace p k → (record_at p k).role ≡ Final → k ≡ 7
    the_final k h is = only_one 12 (λ j. same_role (record_at p j).role Final) 7 final_one k h (ap (λ r. same_role r Final) is)

    -- the other of two ends of which the arc is one
    beside_arc : (link a n other : ℕ) → (targets (record_at p link) ≡ a ∷ n ∷ []) ⊎ (targets (record_at p link) ≡ n ∷ a ∷ []) → a ≡ 2 → (record_at p n).kind ≡ Pno
        → targets (record_at p link) ≡ 2 ∷ other ∷ [] → n ≡ other
    beside_arc link a n other (inl e) is node two = let same : a ∷ n ∷ [] ≡ 2 ∷ other ∷ [] = sym e ∙ two in cc
    beside_arc link a n other (inr e) is node two =
        let same : n ∷ a ∷ [] ≡ 2 ∷ other ∷ [] = sym e ∙ two in
        let first : n ≡ 2 = cc in
        let kinds : Par ≡ Pno = subst (λ k. (record_at p k).kind ≡ Pno) first node in
        cc

    starts_there : StartsElsewhere p 3 → ⊥
    starts_there h =
        let place : h.7.link ≡ 6 = the_initial h.7.link h.7.there h.7.has_role in
        let arc : h.0 ≡ 2 = the_arc h.0 h.6.0 h.6.1 in
        let node : h.1 ≡ 0 = beside_arc h.7.link h.0 h.1 0 h.7.ends arc h.8.1 (ap (λ k. targets (record_at p k)) place) in
        let of_arc : (record_at p 2).points ≡ h.2 ∷ h.4 = subst (λ k. (record_at p k).points ≡ h.2 ∷ h.4) arc h.6.2 in
        let of_node : (record_at p 0).points ≡ h.3 ∷ [] = subst (λ k. (record_at p k).points ≡ h.3 ∷ []) node h.8.2 in
        h.9 (let first : position 1000000 0 ≡ h.2 = cc in let here : position 1000000 0 ≡ h.3 = cc in sym here ∙ first)

    last_is : (a b last : Point) (others : List Point) → a ∷ b ∷ [] ≡ others ++ last ∷ [] → b ≡ last
    last_is a b last [] e = cc
    last_is a b last (x ∷ []) e = cc
    last_is a b last (x ∷ y ∷ []) e = cc
    last_is a b last (x ∷ y ∷ z ∷ others) e = cc

    ends_there : EndsElsewhere p 3 → ⊥
    ends_there h =
        let place : h.7.link ≡ 7 = the_final h.7.link h.7.there h.7.has_role in
        let arc : h.0 ≡ 2 = the_arc h.0 h.6.0 h.6.1 in
        let node : h.1 ≡ 1 = beside_arc h.7.link h.0 h.1 1 h.7.ends arc h.8.1 (ap (λ k. targets (record_at p k)) place) in
        let of_arc : (record_at p 2).points ≡ h.4 ++ h.2 ∷ [] = subst (λ k. (record_at p k).points ≡ h.4 ++ h.2 ∷ []) arc h.6.2 in
        let of_node : (record_at p 1).points ≡ h.3 ∷ [] = subst (λ k. (record_at p k).points ≡ h.3 ∷ []) node h.8.2 in
        h.9 (let here : position 0 0 ≡ h.3 = cc in sym here ∙ last_is (position 1000000 0) (position 0 0) h.2 h.4 of_arc)

    arc_holds : Unbroken 2
    arc_holds rule h = go (breaks_of_arc p 2 refl rule h)
      where
        go : BreaksOfArc p 2 rule → ⊥
        go (starts e d) = starts_there d
        go (ends e d) = ends_there d
        go (reverses e d) = points_differ (reverse (record_at p 2).points) (record_at p 2).points refl refl (sym d)
        go (repeats e d) = let early = d.3 in omega (arith, early, the_arc d.0 d.4.0 d.4.1)

    -- ---- the faces, the object and the links

    side_of : (link face : ℕ) (role : Role) → IsPlace p link → (record_at p link).kind ≡ Lnk → (record_at p link).role ≡ role → role ≢ Plain → targets (record_at p link) ≡ 2 ∷ face ∷ [] → Side p 2 role face
    side_of link face role there kind is other two = record { link = link; there = there; is_link = kind; has_role = is; not_plain = other; arc_there = lit≤ tt; is_arc = refl; ends = inl two }

    bounds : (link face : ℕ) → IsPlace p link → (record_at p link).kind ≡ Lnk → IsSide (record_at p link).role → targets (record_at p link) ≡ 2 ∷ face ∷ []
        → Side p 2 Left face ⊎ Side p 2 Right face
    bounds link face there kind (inl is) two = inl (side_of link face Left there kind is (λ e. cc) two)
    bounds link face there kind (inr is) two = inr (side_of link face Right there kind is (λ e. cc) two)

    first_face : Unbroken 3
    first_face rule h = (breaks_of_face p 3 refl rule h).1 2 (bounds 8 3 (lit≤ tt) refl f_side refl)

    second_face : Unbroken 4
    second_face rule h = (breaks_of_face p 4 refl rule h).1 2 (bounds 9 4 (lit≤ tt) refl g_side refl)

    link_holds : (k : ℕ) → (record_at p k).kind ≡ Lnk → Unbroken k
    link_holds k is rule h = breaks_of_other p k Lnk (lit≤ tt) is rule h

    each_holds : (k : ℕ) → k < 12 → Unbroken k
    each_holds = below 12 Unbroken (
      first_node,
      (
        second_node,
        (
          arc_holds,
          (
            first_face,
            (
              second_face,
              (
                breaks_of_other p 5 Fea (lit≤ tt) refl,
                (link_holds 6 refl, (link_holds 7 refl, (link_holds 8 refl, (link_holds 9 refl, (link_holds 10 refl, (link_holds 11 refl, tt)))))),
              ),
            ),
          ),
        ),
      ),
    )

    pub topology_holds : IsUnbroken (BreaksTopologyRule p)
    topology_holds rule at broken =
        let place = broken_place p rule at broken in
        each_holds place.0 place.2 rule (subst (BreaksTopologyRule p rule) place.1 broken)

    the_object : (k : ℕ) → IsPlace p k → (record_at p k).kind ≡ Fea → k ≡ 5
    the_object k h is = only_one 12 (λ j. same_kind (record_at p j).kind Fea) 5 refl k h (ap (λ j. same_kind j Fea) is)

    pub objects_hold : IsUnbroken (BreaksObjectRule p)
    objects_hold rule at (repeats_object {m} {n} e at_is less h) = omega (arith, less, the_object m h.first h.first_object, the_object n h.second h.second_object)

-- ---- the sheets

pub arc_accepted : IsAccepted arc_classes turned_arc_sheet
unfolding is_elsewhere
arc_accepted =
    let references = references_held arc_classes turned_arc_sheet arc_records_hold arc_sheet arc_states_sheet
    (references_as arc_classes arc_sheet.list (record { names = refl; classes = refl; attributes = refl; subsets = refl; ends = refl; joins = refl; kinds = refl })) in
    let topology = topology_held arc_classes turned_arc_sheet references turned_arc_plan arc_states (topology_holds 6 Left 4 Right refl refl (inl refl) (inr refl)) in
    all_held arc_classes turned_arc_sheet topology turned_arc_plan arc_states (objects_hold 6 Left 4 Right refl refl (inl refl) (inr refl))

pub exchanged_accepted : IsAccepted arc_classes exchanged_sheet
unfolding is_elsewhere
exchanged_accepted =
    let references = references_held arc_classes exchanged_sheet exchanged_records_hold exchanged_records exchanged_states_sheet
    (references_as arc_classes exchanged_records.list (record { names = refl; classes = refl; attributes = refl; subsets = refl; ends = refl; joins = refl; kinds = refl })) in
    let topology = topology_held arc_classes exchanged_sheet references exchanged_plan exchanged_states (topology_holds 4 Right 6 Left refl refl (inr refl) (inl refl)) in
    all_held arc_classes exchanged_sheet topology exchanged_plan exchanged_states (objects_hold 4 Right 6 Left refl refl (inr refl) (inl refl))

-- what is the same breaks no rule of topology and of objects either
pub reversed_accepted : IsAccepted arc_classes reversed_arc_sheet
unfolding is_elsewhere
reversed_accepted =
    all_held arc_classes reversed_arc_sheet (topology_held arc_classes reversed_arc_sheet references reversed_arc_plan reversed_states topology) reversed_arc_plan reversed_states objects
  where
    references : ReferencesHold arc_classes reversed_arc_sheet
    references = references_held arc_classes reversed_arc_sheet reversed_records_hold reversed_records reversed_states_sheet
        (references_as arc_classes reversed_records.list (record { names = refl; classes = refl; attributes = refl; subsets = refl; ends = refl; joins = refl; kinds = refl }))

    under : IsPlanUnder arc_classes turned_arc_plan
    under = plan_under arc_classes turned_arc_sheet turned_arc_plan arc_schema arc_accepted arc_states

    under' : IsPlanUnder arc_classes reversed_arc_plan
    under' = record {
      paired = under.paired;
      whole = plans_whole arc_classes reversed_states.0 reversed_arc_plan reversed_states.2 (sheet_whole arc_classes reversed_arc_sheet reversed_records_hold reversed_states.0 reversed_states.1) (references.1 reversed_states.0 reversed_states.1);
      agrees = plans_agreeing arc_classes reversed_states.0 reversed_arc_plan reversed_states.2;
    }

    same : Same arc_classes turned_arc_plan reversed_arc_plan
    same = (_, _, arc_carries)

    topology : IsUnbroken (BreaksTopologyRule reversed_arc_plan)
    topology = topology_preserved arc_classes turned_arc_plan reversed_arc_plan under under' same (topology_holds 6 Left 4 Right refl refl (inl refl) (inr refl))

    objects : IsUnbroken (BreaksObjectRule reversed_arc_plan)
    objects = objects_preserved arc_classes turned_arc_plan reversed_arc_plan under under' (plan_joined arc_classes turned_arc_sheet turned_arc_plan arc_accepted arc_states) same
        (objects_hold 6 Left 4 Right refl refl (inl refl) (inr refl))
