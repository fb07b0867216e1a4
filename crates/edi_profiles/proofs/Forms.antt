-- A known sheet had a canonical file by the rules of each time.
use Rattle.std.proofs.Common.{◌≡◌, ◌∙◌, sym, ap, subst, refl, ℕ, ◌<◌, [], ◌∷◌, length, Some, codes, arith, inl, inr}
use Rattle.std.specs.List.{AllByRecursion}
use Rattle.edi_line.specs.LineRules.{IsZonesOf}
use Rattle.edi_line.specs.Zones.{groups_of}
use Rattle.edi_line.specs.inner.Spelling.{reading_of, has_head}
use Rattle.edi_line.specs.inner.Number.{whole_number, fraction_number, number}
use Rattle.edi_line.proofs.ZonesFound.{zones_of}
use Rattle.edi_line.proofs.KnownFiles.{zones_as}
use Rattle.edi_line.proofs.ZonesSaid.{zones_of_one}
use Rattle.edi_record.specs.Texts.{IsPosition}
use Rattle.edi_record.specs.inner.Texts.{point_in}
use Rattle.edi_record.proofs.TextParts.{place_is}
use Rattle.edi_plan.specs.Plans.{PlanData}
use Rattle.edi_rank.specs.Same.{Same}
use Rattle.edi_compare.specs.Known.{node_classes, node_file, node_plan, node_sheet}
use Rattle.edi_compare.specs.PlanOfFile.{IsPlanOfFile}
use Rattle.edi_compare.proofs.KnownSheets.{node_form, sheet_accepted, states_node}
use Rattle.edi_compare.proofs.Phases.{one_plan}
use Rattle.edi_profiles.specs.Laws.{IsFlatFile, IsFlatGroup}
use Rattle.edi_profiles.specs.Profiles.{BreaksTopology, IsAcceptedBy, IsCanonicalBy, IsFormBy, IsPlanBy, three_coordinates, today, two_coordinates}
use Rattle.edi_profiles.proofs.Later.{form_by_two}
use Rattle.edi_profiles.proofs.Sheets.{node_flat, node_three}
use Rattle.edi_profiles.proofs.Stated.{file_group, flat_point}
use Rattle.edi_profiles.proofs.Today.{accepted_then, form_then, plan_now, plan_then}
use Rattle.edi_profiles.proofs.Transfer.{also_accepted}

-- ---- the plan of the file

abbrev file_plan : PlanData
file_plan = node_form.canonical.plan

-- it has one record, as the plan of the sheet does
one_place : (i k : ℕ) → i < k → k < length file_plan.list → ⊥
one_place i k less within = go node_form.same.0 node_form.same.1 node_form.same.2 node_form.same.3 node_form.same.4
  where
    met : (p q : PlanData) → p ≡ node_plan → q ≡ file_plan → Same node_classes p q → ⊥
    met p q one two (to, turned, carries) =
        let of_one : length p.list ≡ 1 = ap (λ (d : PlanData). length d.list) one in
        let of_two : length q.list ≡ length file_plan.list = ap (λ (d : PlanData). length d.list) two in
        let first = carries.places.onto i (omega (arith, less, within, of_two)) in
        let second = carries.places.onto k (omega (arith, within, of_two)) in
        let same : first.0 ≡ second.0 = omega (arith, first.1, second.1, of_one) in
        let here : i ≡ k = sym first.2 ∙ ap to same ∙ second.2 in
        omega (arith, less, here)

    go : (p q : PlanData) → IsPlanOfFile node_classes node_sheet p → IsPlanOfFile node_classes node_file q → Same node_classes p q → ⊥
    go p q from onto same =
        met p q (one_plan node_classes node_sheet p node_plan from states_node) (one_plan node_classes node_file q file_plan onto node_form.canonical.states) same

-- ---- its zones

file_zones : IsZonesOf node_file (zones_of node_file)
unfolding reading_of has_head
file_zones = zones_as node_file (zones_of node_file) refl refl

file_groups : groups_of (zones_of node_file) ≡ file_group ∷ []
unfolding reading_of has_head
file_groups = refl

file_read : point_in (codes "+10.5;+20;") ≡ Some flat_point
unfolding number whole_number fraction_number point_in
file_read = refl

file_position : IsPosition (codes "+10.5;+20;") flat_point
file_position = (place_is (codes "+10.5;+20;") flat_point).0 file_read

file_flat : IsFlatFile node_file
file_flat zones z = subst (AllByRecursion IsFlatGroup) (sym (ap groups_of (zones_of_one node_file zones (zones_of node_file) z file_zones) ∙ file_groups)) (group, tt)
  where
    group : IsFlatGroup file_group
    group kind is has = ((flat_point, (file_position, refl)), tt)

-- ---- by the rules of three coordinates, and of two

no_repeats : (p : PlanData) → IsPlanBy three_coordinates node_classes node_file p → (rule at : ℕ) → BreaksTopology three_coordinates p rule at → BreaksTopology today p rule at
no_repeats p g rule at (inl h) = inl h
no_repeats p g rule at (inr (e, (m, n, place, less, share))) =
    let same : p ≡ file_plan = one_plan node_classes node_file p file_plan (plan_now node_classes node_file p g) node_form.canonical.states in
    absurd (one_place m n less (subst (λ (q : PlanData). n < length q.list) same share.second))

file_three : IsAcceptedBy three_coordinates node_classes node_file
file_three = also_accepted today node_classes node_file (accepted_then node_classes node_file node_form.canonical.accepted) three_coordinates (λ zones rule at h. h) (λ sheet g. g) no_repeats

canonical_three : IsCanonicalBy three_coordinates node_classes node_file
canonical_three =
    let can = node_form.canonical in
    record {
      plan = can.plan;
      bytes = can.bytes;
      accepted = file_three;
      states = plan_then node_classes node_file can.plan can.states;
      laid_out = can.laid_out;
      in_order = record {
        by_type = can.in_order.by_type;
        nodes = λ i k both. absurd (one_place i k (omega (arith, both.lesser)) both.second);
        arcs = can.in_order.rise.arcs;
        faces = can.in_order.rise.faces;
        objects = can.in_order.rise.objects;
        links = can.in_order.rise.links;
        forward = can.in_order.forward;
        attributes = can.in_order.attributes;
        others = can.in_order.others;
      };
    }

same_plan : Same node_classes node_plan file_plan
same_plan = go node_form.same.0 node_form.same.1 node_form.same.2 node_form.same.3 node_form.same.4
  where
    go : (p q : PlanData) → IsPlanOfFile node_classes node_sheet p → IsPlanOfFile node_classes node_file q → Same node_classes p q → Same node_classes node_plan file_plan
    go p q from onto same =
        subst (λ r. Same node_classes r file_plan) (one_plan node_classes node_sheet p node_plan from states_node)
        (subst (λ r. Same node_classes p r) (one_plan node_classes node_file q file_plan onto node_form.canonical.states) same)

pub form_three : IsFormBy three_coordinates node_classes node_sheet node_file
unfolding canonical_three
form_three = record {
  plan = node_plan;
  accepted = node_three;
  states = plan_then node_classes node_sheet node_plan states_node;
  canonical = canonical_three;
  same = same_plan;
}

pub form_two : IsFormBy two_coordinates node_classes node_sheet node_file
form_two = form_by_two node_classes node_sheet node_file node_flat file_flat form_three

pub form_today : IsFormBy today node_classes node_sheet node_file
form_today = form_then node_classes node_sheet node_file node_plan sheet_accepted states_node node_form.canonical same_plan
