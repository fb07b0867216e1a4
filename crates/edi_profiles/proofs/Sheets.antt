-- The known sheets, by the rules of each time.
use Rattle.std.proofs.Common.{◌≡◌, ◌∙◌, sym, ap, subst, refl, ℕ, ◌<◌, [], ◌∷◌, length, Some, None, codes, arith, lit≤, inl, inr}
use Rattle.std.specs.List.{AllByRecursion, AllZip}
use Rattle.std.specs.Prelude.{pos}
use Rattle.edi_line.specs.ZoneData.{ZoneData}
use Rattle.edi_line.specs.LineRules.{IsZonesOf}
use Rattle.edi_line.specs.Zones.{groups_of}
use Rattle.edi_line.specs.inner.Spelling.{reading_of, has_head}
use Rattle.edi_line.specs.inner.Number.{whole_number, fraction_number, number}
use Rattle.edi_line.proofs.ZonesFound.{zones_of}
use Rattle.edi_line.proofs.KnownFiles.{unbroken_as, zones_as}
use Rattle.edi_line.proofs.ZonesSaid.{zones_of_one}
use Rattle.edi_record.specs.Records.{States, SheetData}
use Rattle.edi_record.specs.Rows.{node_group}
use Rattle.edi_record.specs.Texts.{IsPosition}
use Rattle.edi_record.specs.inner.Records.{ReadsAsRecord, set_after, value_after, attributes, sns_after, ends, zones_placed}
use Rattle.edi_record.specs.inner.Texts.{pointer, point_in}
use Rattle.edi_record.specs.declared.record.Kind.TheVariants.{Pno}
use Rattle.edi_record.specs.declared.record.Point.{Point}
use Rattle.edi_record.proofs.RowsHold.{node_zones, node_said}
use Rattle.edi_record.proofs.StatesSaid.{states_said}
use Rattle.edi_record.proofs.TextParts.{place_is, place_one}
use Rattle.edi_plan.specs.Plans.{PlanData}
use Rattle.edi_compare.specs.Known.{node_classes, node_plan, node_sheet}
use Rattle.edi_compare.specs.PlanOfFile.{IsPlanOfFile, IsSheetOf}
use Rattle.edi_compare.specs.Rules.{LinesHold}
use Rattle.edi_compare.proofs.KnownSheets.{sheet_accepted, states_node}
use Rattle.edi_compare.proofs.Phases.{one_plan}
use Rattle.edi_profiles.specs.Known.{high_sheet, shared_sheet}
use Rattle.edi_profiles.specs.Laws.{IsFlatFile, IsFlatGroup}
use Rattle.edi_profiles.specs.Profiles.{BreaksTopology, IsAcceptedBy, IsPlanBy, LacksPosition, ShareAPosition, three_coordinates, today, two_coordinates}
use Rattle.edi_profiles.specs.Profiles.BreaksBy.{of_records, of_topology}
use Rattle.edi_profiles.proofs.Later.{accepted_by_three, breaks_three}
use Rattle.edi_profiles.proofs.Stated.{extra_zone, first_group, high_group, high_point, node_of, second_group, shared_plan}
use Rattle.edi_profiles.proofs.Today.{accepted_then, plan_now, plan_then}
use Rattle.edi_profiles.proofs.Transfer.{also_accepted, references_held}

-- ---- the node of two coordinates

known_zones : IsZonesOf node_sheet (zones_of node_sheet)
unfolding reading_of has_head
known_zones = zones_as node_sheet (zones_of node_sheet) refl refl

pub node_flat : IsFlatFile node_sheet
node_flat zones z = subst (AllByRecursion IsFlatGroup) (sym (ap groups_of (zones_of_one node_sheet zones (zones_of node_sheet) z known_zones) ∙ node_zones)) (group, tt)
  where
    group : IsFlatGroup node_group
    group kind is has = ((record { x = pos 10500000; y = pos 20000000; z = None }, (node_said.points.0, refl)), tt)

-- the plan has one node, so none repeats another
no_repeats : (p : PlanData) → IsPlanBy three_coordinates node_classes node_sheet p → (rule at : ℕ) → BreaksTopology three_coordinates p rule at → BreaksTopology today p rule at
no_repeats p g rule at (inl h) = inl h
no_repeats p g rule at (inr (e, (m, n, place, less, share))) =
    let same : p ≡ node_plan = one_plan node_classes node_sheet p node_plan (plan_now node_classes node_sheet p g) states_node in
    let within : n < length node_plan.list = subst (λ (q : PlanData). n < length q.list) same share.second in
    absurd (omega (arith, less, within))

pub node_three : IsAcceptedBy three_coordinates node_classes node_sheet
node_three = also_accepted today node_classes node_sheet (accepted_then node_classes node_sheet sheet_accepted) three_coordinates (λ zones rule at h. h) (λ sheet g. g) no_repeats

pub node_two : IsAcceptedBy two_coordinates node_classes node_sheet
node_two rule at h = node_three rule at (breaks_three node_classes node_sheet node_flat rule at h)

-- ---- the node of three coordinates

high_zones : IsZonesOf high_sheet (zones_of high_sheet)
unfolding reading_of has_head
high_zones = zones_as high_sheet (zones_of high_sheet) refl refl

high_lines : LinesHold node_classes high_sheet
unfolding reading_of has_head
high_lines = unbroken_as high_sheet refl

high_groups : groups_of (zones_of high_sheet) ≡ high_group ∷ []
unfolding reading_of has_head
high_groups = refl

high_read : point_in (codes "1;2;3;") ≡ Some high_point
unfolding number whole_number fraction_number point_in
high_read = refl

high_position : IsPosition (codes "1;2;3;") high_point
high_position = (place_is (codes "1;2;3;") high_point).0 high_read

high_lacks : LacksPosition two_coordinates high_group
high_lacks = (Pno, refl, refl, (0, codes "1;2;3;", lit≤ tt, refl, λ q flat. clash (sym (ap (λ (p : Point). p.z) (place_one (codes "1;2;3;") q high_point flat.0 high_position)) ∙ flat.1)))
  where
    clash : Some (pos 3000000) ≡ None → ⊥
    clash e = cc

pub high_refused : IsAcceptedBy two_coordinates node_classes high_sheet → ⊥
high_refused accepted = accepted 206 1 (of_records (zones_of high_sheet) high_lines high_zones (inr (refl, ([], high_group, [], high_groups, refl, high_lacks))))

-- ---- two nodes at one position

shared_zones : IsZonesOf shared_sheet (zones_of shared_sheet)
unfolding reading_of has_head
shared_zones = zones_as shared_sheet (zones_of shared_sheet) refl refl

shared_groups : groups_of (zones_of shared_sheet) ≡ first_group ∷ second_group ∷ []
unfolding reading_of has_head
shared_groups = refl

shared_set : None ≡ Rattle.std.specs.Prelude.option_map (λ (e : ZoneData). e.value) (Rattle.edi_line.specs.Zones.charset_of (zones_of shared_sheet))
unfolding reading_of has_head
shared_set = refl

first_stated : ReadsAsRecord first_group (node_of (codes "a") [])
unfolding number whole_number fraction_number pointer point_in set_after value_after attributes sns_after ends zones_placed
first_stated = record { type = refl; rid = refl; scp = refl; points = refl; ends = refl; attributes = refl; extras = refl }

second_stated : ReadsAsRecord second_group (node_of (codes "b") (extra_zone ∷ []))
unfolding number whole_number fraction_number pointer point_in set_after value_after attributes sns_after ends zones_placed
second_stated = record { type = refl; rid = refl; scp = refl; points = refl; ends = refl; attributes = refl; extras = refl }

abbrev two_nodes : SheetData
two_nodes = record { cse = None; list = node_of (codes "a") [] ∷ node_of (codes "b") (extra_zone ∷ []) ∷ [] }

states_two : IsSheetOf shared_sheet two_nodes
states_two = (
  zones_of shared_sheet,
  shared_zones,
  record {
    cse = shared_set;
    records = subst (λ gs. AllZip States gs two_nodes.list) (sym shared_groups) (states_said first_group (node_of (codes "a") []) first_stated, (states_said second_group (node_of (codes "b") (extra_zone ∷ [])) second_stated, tt));
  },
)

states_plan : IsPlanOfFile node_classes shared_sheet shared_plan
states_plan = (
  two_nodes,
  states_two,
  record {
    set = refl;
    each = (
      record { kind = refl; class = refl; role = refl; points = refl; attributes = tt; extras = refl; ends = tt },
      (record { kind = refl; class = refl; role = refl; points = refl; attributes = tt; extras = refl; ends = tt }, tt),
    );
  },
)

share : ShareAPosition shared_plan 0 1
share = record { first = lit≤ tt; second = lit≤ tt; first_node = refl; second_node = refl; points = refl }

pub shared_refused : IsAcceptedBy three_coordinates node_classes shared_sheet → ⊥
shared_refused accepted =
    accepted 403 2 (of_topology shared_plan (references_held three_coordinates node_classes shared_sheet accepted) (plan_then node_classes shared_sheet shared_plan states_plan)
    (inr (refl, (0, 1, refl, lit≤ tt, share))))

pub shared_refused_earlier : IsAcceptedBy two_coordinates node_classes shared_sheet → ⊥
shared_refused_earlier accepted = shared_refused (accepted_by_three node_classes shared_sheet accepted)
