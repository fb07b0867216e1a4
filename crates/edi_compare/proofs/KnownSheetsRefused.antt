-- Known sheets that are refused, one in each phase.
use Rattle.std.proofs.Common.{◌≡◌, ◌∙◌, sym, subst, ap, refl, ℕ, zero, suc, ◌-◌, ◌<◌, ◌≤◌, ◌⊎◌, inl, inr, true, List, [], ◌∷◌, Some, None, codes, arith, lit≤}
use Rattle.std.specs.Prelude.{slice_get}
use Rattle.std.specs.List.{list_all}
use Rattle.std.proofs.lemmas.List.Sorted.{IsPermutation-refl}
use Rattle.edi_line.specs.Feeding.{seen_in}
use Rattle.edi_line.specs.LineRules.{BreaksLineRule}
use Rattle.edi_line.specs.Refusal.{IsUnbroken, IsLeastBroken}
use Rattle.edi_line.specs.Zones.{groups_of}
use Rattle.edi_line.specs.inner.Number.{whole_number, fraction_number, number}
use Rattle.edi_line.specs.inner.Spelling.{reading_of, has_head}
use Rattle.edi_line.specs.inner.Zones.{readings_of}
use Rattle.edi_line.proofs.ZonesFound.{zones_of}
use Rattle.edi_line.proofs.KnownFiles.{first_fault, refused_as, unbroken_as}
use Rattle.edi_record.specs.declared.record.Kind.TheVariants.{Pfe, Fea, Lnk}
use Rattle.edi_record.specs.declared.record.Record.{Record}
use Rattle.edi_record.specs.Records.{SheetData}
use Rattle.edi_record.specs.inner.Records.{set_after, value_after, attributes, sns_after, ends, zones_placed}
use Rattle.edi_record.specs.inner.Texts.{pointer, point_in, count}
use Rattle.edi_record.proofs.RowsHold.{wrong_count}
use Rattle.edi_schema.specs.Classes.{Classes}
use Rattle.edi_schema.specs.declared.role.Role.{Role}
use Rattle.edi_schema.specs.declared.role.Role.TheVariants.{Left, Right}
use Rattle.edi_plan.specs.Plans.{PlanData, record_at}
use Rattle.edi_plan.specs.ReferenceRules.{BreaksReferenceRule, IsRecordAt}
use Rattle.edi_plan.specs.ReferenceRules.BreaksReferenceRule.{repeats_name, lacks_class, lacks_attribute_class, leaves_subset, names_nothing, joins_wrong, repeats_side}
use Rattle.edi_plan.specs.Sides.{Side}
use Rattle.edi_plan.specs.inner.Resolving.{is_elsewhere}
use Rattle.edi_topo.specs.TopologyRules.{BreaksTopologyRule}
use Rattle.edi_topo.specs.TopologyRules.BreaksTopologyRule.{bounds_nothing}
use Rattle.edi_topo.proofs.AtPlaces.{broken_place, breaks_of_face, breaks_of_other}
use Rattle.edi_rank.specs.EqualObjects.{AreEqualObjects, BreaksObjectRule}
use Rattle.edi_rank.specs.EqualObjects.BreaksObjectRule.{repeats_object}
use Rattle.edi_compare.specs.Known.{node_classes, arc_classes, bare, cut_line_sheet, wrong_count_sheet, lone_face_sheet, equal_objects_sheet}
use Rattle.edi_compare.specs.PlanOfFile.{IsSheetOf, IsPlanOfFile}
use Rattle.edi_compare.specs.Rules.{Breaks, RecordsHold, ReferencesHold, TopologyHolds}
use Rattle.edi_compare.proofs.KnownSheetsTests.{below}
use Rattle.edi_compare.proofs.KnownSheetsRead.{is_read, to_read, sheet_as, keeps_rules, records_as, plan_as}
use Rattle.edi_compare.proofs.KnownSheetsReferences.{references_as}
use Rattle.edi_compare.proofs.KnownSheetsStated.{plain_record}
use Rattle.edi_compare.proofs.Phases.{line_refusal, record_refusal, reference_refusal, topology_refusal, object_refusal, references_held, topology_held}

-- an entry that is least
abbrev IsLeast : Classes → List ℕ → ℕ → ℕ → Type 0
IsLeast s bytes rule at = (200 ≤ rule) × IsLeastBroken (Breaks s bytes) rule at

-- ---- lines

pub line_refused : (102 < 200) × IsLeastBroken (Breaks node_classes cut_line_sheet) 102 1
unfolding reading_of has_head
line_refused = line_refusal node_classes cut_line_sheet 102 1 (refused_as cut_line_sheet 102 1 refl)

-- ---- records

wrong_count_lines : IsUnbroken (BreaksLineRule wrong_count_sheet)
unfolding reading_of has_head
wrong_count_lines = unbroken_as wrong_count_sheet refl

pub count_refused : IsLeast node_classes wrong_count_sheet 205 1
count_refused = record_refusal node_classes wrong_count_sheet 205 1 wrong_count_lines wrong_count.0 wrong_count.1 wrong_count.2

-- ---- references

abbrev face_sheet : SheetData
face_sheet = record { cse = None; list = plain_record Pfe (codes "f") (codes "PGE") (codes "FAC_id") [] ∷ [] }

face_lines_hold : first_fault (seen_in []) 1 (readings_of lone_face_sheet) ≡ None
unfolding reading_of has_head
face_lines_hold = refl

face_read : is_read lone_face_sheet face_sheet.list ≡ to_read face_sheet.list
unfolding reading_of has_head number whole_number fraction_number pointer point_in set_after value_after attributes sns_after ends zones_placed
face_read = refl

face_states_sheet : IsSheetOf lone_face_sheet face_sheet
unfolding reading_of has_head
face_states_sheet = sheet_as lone_face_sheet face_sheet face_lines_hold refl face_read

face_groups_hold : list_all keeps_rules (groups_of (zones_of lone_face_sheet)) ≡ true
unfolding reading_of has_head number whole_number fraction_number pointer point_in count zones_placed
face_groups_hold = refl

face_records_hold : (s : Classes) → RecordsHold s lone_face_sheet
face_records_hold s = records_as s lone_face_sheet face_lines_hold face_groups_hold

at_first : (r q : Record) (at : ℕ) → IsRecordAt node_classes (r ∷ []) at q → at ≡ 1
at_first r q at h = go (at - 1) refl h.1
  where
    go : (k : ℕ) → at - 1 ≡ k → slice_get (r ∷ []) k ≡ Some q → at ≡ 1
    go zero is there = let one = h.0 in omega (arith, is, one)
    go (suc k) is there = cc

-- the rules of references that a record alone breaks are broken at the first place, and none is less than the second
lone_rules : (r : Record) (rule at : ℕ) → BreaksReferenceRule node_classes (r ∷ []) rule at → (at ≡ 1) × (302 ≤ rule)
lone_rules r rule at (repeats_name e h) = absurd (let less = h.3 in omega (arith, less, at_first r h.1 h.0 h.4, at_first r h.2 at h.5))
lone_rules r rule at (lacks_class e h) = (at_first r h.0 at h.1, omega (arith, e))
lone_rules r rule at (lacks_attribute_class e h) = (at_first r h.0 at h.1, omega (arith, e))
lone_rules r rule at (leaves_subset e h) = (at_first r h.0 at h.3, omega (arith, e))
lone_rules r rule at (names_nothing e h) = (at_first r h.0 at h.1, omega (arith, e))
lone_rules r rule at (joins_wrong e h) = (at_first r h.0 at h.1, omega (arith, e))
lone_rules r rule at (repeats_side e h) = (at_first r h.3 at h.7, omega (arith, e))

class_least : IsLeastBroken (BreaksReferenceRule node_classes face_sheet.list) 302 1
class_least = record {
  is = lacks_class refl (plain_record Pfe (codes "f") (codes "PGE") (codes "FAC_id") [], (lit≤ tt, refl), refl);
  least = λ rule at h. let told = lone_rules (plain_record Pfe (codes "f") (codes "PGE") (codes "FAC_id") []) rule at h in inr (sym told.0, told.1);
}

pub class_refused : IsLeast node_classes lone_face_sheet 302 1
class_refused = reference_refusal node_classes lone_face_sheet 302 1 (face_records_hold node_classes) face_sheet face_states_sheet class_least

-- ---- topology

abbrev face_plan : PlanData
face_plan = record { cse = None; list = bare Pfe 2 [] ∷ [] }

face_states : IsPlanOfFile arc_classes lone_face_sheet face_plan
face_states = plan_as arc_classes lone_face_sheet face_sheet face_plan face_states_sheet refl refl

face_references_hold : ReferencesHold arc_classes lone_face_sheet
unfolding is_elsewhere
face_references_hold = references_held arc_classes lone_face_sheet (face_records_hold arc_classes) face_sheet face_states_sheet
    (references_as arc_classes face_sheet.list (record { names = refl; classes = refl; attributes = refl; subsets = refl; ends = refl; joins = refl; kinds = refl }))

no_side : (a : ℕ) (role : Role) (x : ℕ) → Side face_plan a role x → ⊥
no_side a role x side =
    let there = side.there in
    let first : side.link ≡ 0 = omega (arith, there) in
    let kinds : Pfe ≡ Lnk = subst (λ k. (record_at face_plan k).kind ≡ Lnk) first side.is_link in
    cc

bound_least : IsLeastBroken (BreaksTopologyRule face_plan) 406 1
bound_least = record {
  is = bounds_nothing refl (0, [], refl, (lit≤ tt, refl, refl), either);
  least = least;
}
  where
    either : (a : ℕ) → ¬ (Side face_plan a Left 0 ⊎ Side face_plan a Right 0)
    either a (inl side) = no_side a Left 0 side
    either a (inr side) = no_side a Right 0 side

    least : (rule at : ℕ) → BreaksTopologyRule face_plan rule at → (1 < at) ⊎ ((1 ≡ at) × (406 ≤ rule))
    least rule at h =
        let place = broken_place face_plan rule at h in
        let here = place.2 in
        let first : place.0 ≡ 0 = omega (arith, here) in
        let one : at ≡ 1 = place.1 ∙ ap suc first in
        let rules = (breaks_of_face face_plan 0 refl rule (subst (BreaksTopologyRule face_plan rule) one h)).0 in
        inr (sym one, omega (arith, rules))

pub bound_refused : IsLeast arc_classes lone_face_sheet 406 1
bound_refused = topology_refusal arc_classes lone_face_sheet 406 1 face_references_hold face_plan face_states bound_least

-- ---- objects

abbrev objects_sheet : SheetData
objects_sheet = record {
  cse = None;
  list = plain_record Fea (codes "o") (codes "OBJ") (codes "BAT_id") [] ∷ plain_record Fea (codes "p") (codes "OBJ") (codes "BAT_id") [] ∷ [];
}

abbrev objects_plan : PlanData
objects_plan = record { cse = None; list = bare Fea 0 [] ∷ bare Fea 0 [] ∷ [] }

objects_lines_hold : first_fault (seen_in []) 1 (readings_of equal_objects_sheet) ≡ None
unfolding reading_of has_head
objects_lines_hold = refl

objects_read : is_read equal_objects_sheet objects_sheet.list ≡ to_read objects_sheet.list
unfolding reading_of has_head number whole_number fraction_number pointer point_in set_after value_after attributes sns_after ends zones_placed
objects_read = refl

objects_states_sheet : IsSheetOf equal_objects_sheet objects_sheet
unfolding reading_of has_head
objects_states_sheet = sheet_as equal_objects_sheet objects_sheet objects_lines_hold refl objects_read

objects_groups_hold : list_all keeps_rules (groups_of (zones_of equal_objects_sheet)) ≡ true
unfolding reading_of has_head number whole_number fraction_number pointer point_in count zones_placed
objects_groups_hold = refl

objects_states : IsPlanOfFile arc_classes equal_objects_sheet objects_plan
objects_states = plan_as arc_classes equal_objects_sheet objects_sheet objects_plan objects_states_sheet refl refl

objects_references_hold : ReferencesHold arc_classes equal_objects_sheet
unfolding is_elsewhere
objects_references_hold = references_held arc_classes equal_objects_sheet (records_as arc_classes equal_objects_sheet objects_lines_hold objects_groups_hold) objects_sheet objects_states_sheet
    (references_as arc_classes objects_sheet.list (record { names = refl; classes = refl; attributes = refl; subsets = refl; ends = refl; joins = refl; kinds = refl }))

objects_topology_holds : TopologyHolds arc_classes equal_objects_sheet
objects_topology_holds = topology_held arc_classes equal_objects_sheet objects_references_hold objects_plan objects_states none
  where
    each : (k : ℕ) → k < 2 → (rule : ℕ) → BreaksTopologyRule objects_plan rule (suc k) → ⊥
    each = below 2 (λ k. (rule : ℕ) → BreaksTopologyRule objects_plan rule (suc k) → ⊥) (breaks_of_other objects_plan 0 Fea (lit≤ tt) refl, (breaks_of_other objects_plan 1 Fea (lit≤ tt) refl, tt))

    none : IsUnbroken (BreaksTopologyRule objects_plan)
    none rule at h = let place = broken_place objects_plan rule at h in each place.0 place.2 rule (subst (BreaksTopologyRule objects_plan rule) place.1 h)

equal_objects : AreEqualObjects objects_plan 0 1
equal_objects = record {
  first = lit≤ tt;
  second = lit≤ tt;
  first_object = refl;
  second_object = refl;
  class = refl;
  attributes = IsPermutation-refl [];
  extras = refl;
  pieces = ([], IsPermutation-refl [], tt);
}

equal_least : IsLeastBroken (BreaksObjectRule objects_plan) 501 2
equal_least = record { is = repeats_object {m = 0} {n = 1} refl refl (lit≤ tt) equal_objects; least = least }
  where
    least : (rule at : ℕ) → BreaksObjectRule objects_plan rule at → (2 < at) ⊎ ((2 ≡ at) × (501 ≤ rule))
    least rule at (repeats_object {m} {n} e at_is less h) = let second = h.second in inr (omega (arith, at_is, less, second), omega (arith, e))

pub objects_refused : IsLeast arc_classes equal_objects_sheet 501 2
objects_refused = object_refusal arc_classes equal_objects_sheet 501 2 objects_topology_holds objects_plan objects_states equal_least
