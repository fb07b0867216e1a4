-- A sheet of one node and a sheet without records, through all definitions.
use Rattle.std.proofs.Common.{◌≡◌, ◌≢◌, ◌∙◌, subst, ap, refl, ℕ, suc, ◌<◌, true, false, [], ◌∷◌, length, Some, None, codes, arith, lit≤, true≢false}
use Rattle.std.specs.Fmt.{digits}
use Rattle.std.specs.List.{list_all}
use Rattle.edi_line.specs.Feeding.{seen_in}
use Rattle.edi_line.specs.Number.{fraction_digits, size_text}
use Rattle.edi_line.specs.Printing.{printed_zone, broken_into, content_text, line_text, next_zone}
use Rattle.edi_line.specs.Refusal.{IsUnbroken, IsLeastBroken}
use Rattle.edi_line.specs.Zones.{groups_of}
use Rattle.edi_line.specs.inner.Number.{whole_number, fraction_number, number}
use Rattle.edi_line.specs.inner.Spelling.{reading_of, has_head}
use Rattle.edi_line.specs.inner.Zones.{readings_of}
use Rattle.edi_line.proofs.ZonesFound.{zones_of}
use Rattle.edi_line.proofs.KnownFiles.{first_fault, refused_as}
use Rattle.edi_record.specs.Rows.{the_node}
use Rattle.edi_record.specs.Texts.{pointer_text, point_text}
use Rattle.edi_record.specs.Records.{SheetData}
use Rattle.edi_record.specs.inner.Records.{set_after, value_after, attributes, sns_after, ends, zones_placed}
use Rattle.edi_record.specs.inner.Texts.{pointer, point_in, count}
use Rattle.edi_schema.specs.Classes.{IsSchema}
use Rattle.edi_plan.specs.Plans.{PlanData, IsPlace}
use Rattle.edi_plan.specs.inner.Resolving.{is_elsewhere}
use Rattle.edi_topo.specs.TopologyRules.{BreaksTopologyRule}
use Rattle.edi_topo.proofs.AtPlaces.{breaks_of_node, broken_place}
use Rattle.edi_rank.specs.Arranged.{arranged}
use Rattle.edi_rank.specs.EqualObjects.{BreaksObjectRule}
use Rattle.edi_rank.specs.EqualObjects.BreaksObjectRule.{repeats_object}
use Rattle.edi_rank.specs.Labelling.{Labelling, AreLabels}
use Rattle.edi_write.specs.Layout.{layout}
use Rattle.edi_compare.specs.Headline.{IsFormOf}
use Rattle.edi_compare.specs.Known.{node_classes, node_sheet, node_plan, node_file, empty_sheet, empty_file}
use Rattle.edi_compare.specs.PlanOfFile.{IsSheetOf, IsPlanOfFile, StateSame}
use Rattle.edi_compare.specs.Rules.{IsAccepted, ReferencesHold}
use Rattle.edi_compare.proofs.Forms.{canonical_file}
use Rattle.edi_compare.proofs.KnownSheetsLabelled.{labels_as}
use Rattle.edi_compare.proofs.KnownSheetsRead.{is_read, to_read, sheet_as, keeps_rules, records_as, plan_as}
use Rattle.edi_compare.proofs.KnownSheetsReferences.{references_as}
use Rattle.edi_compare.proofs.KnownSheetsSchema.{schema_as}
use Rattle.edi_compare.proofs.KnownSheetsTests.{bytes_of}
use Rattle.edi_compare.proofs.Phases.{references_held, topology_held, all_held, line_refusal}

classes_keep : IsSchema node_classes
classes_keep = schema_as node_classes (record { few = refl; letters = refl; in_order = refl; one = refl; both = refl; pointable = refl; readable = refl })

-- ---- the sheet of one node

abbrev the_sheet : SheetData
the_sheet = record { cse = Some (codes "IRV"); list = the_node ∷ [] }

sheet_lines : first_fault (seen_in []) 1 (readings_of node_sheet) ≡ None
unfolding reading_of has_head
sheet_lines = refl

sheet_read : is_read node_sheet the_sheet.list ≡ to_read the_sheet.list
unfolding reading_of has_head number whole_number fraction_number pointer point_in set_after value_after attributes sns_after ends zones_placed
sheet_read = refl

states_sheet : IsSheetOf node_sheet the_sheet
unfolding reading_of has_head
states_sheet = sheet_as node_sheet the_sheet sheet_lines refl sheet_read

sheet_groups : list_all keeps_rules (groups_of (zones_of node_sheet)) ≡ true
unfolding reading_of has_head number whole_number fraction_number pointer point_in count zones_placed
sheet_groups = refl

pub states_node : IsPlanOfFile node_classes node_sheet node_plan
states_node = plan_as node_classes node_sheet the_sheet node_plan states_sheet refl refl

references_hold : ReferencesHold node_classes node_sheet
unfolding is_elsewhere
references_hold =
    references_held node_classes node_sheet (records_as node_classes node_sheet sheet_lines sheet_groups) the_sheet states_sheet
    (references_as node_classes the_sheet.list (record { names = refl; classes = refl; attributes = refl; subsets = refl; ends = refl; joins = refl; kinds = refl }))

one_place : (k : ℕ) → IsPlace node_plan k → k ≡ 0
one_place k h = omega (arith, h)

topology_holds : IsUnbroken (BreaksTopologyRule node_plan)
topology_holds rule at broken =
    let place = broken_place node_plan rule at broken in
    let here : BreaksTopologyRule node_plan rule 1 = subst (BreaksTopologyRule node_plan rule) (place.1 ∙ ap suc (one_place place.0 place.2)) broken in
    let repeats = breaks_of_node node_plan 0 refl rule here in
    let early = repeats.1.1 in
    omega (arith, early)

no_equal : IsUnbroken (BreaksObjectRule node_plan)
no_equal rule at (repeats_object e at_is less h) = let second = h.second in omega (arith, less, one_place _ second)

pub sheet_accepted : IsAccepted node_classes node_sheet
sheet_accepted = all_held node_classes node_sheet (topology_held node_classes node_sheet references_hold node_plan states_node topology_holds) node_plan states_node no_equal

abbrev node_labels : Labelling
node_labels = record { numbers = 1 ∷ []; turned = false ∷ []; others = [] ∷ []; nodes = 0 ∷ []; arcs = []; faces = []; objects = []; links = [] }

labels_hold : AreLabels node_classes node_plan node_labels
labels_hold = labels_as node_classes node_plan node_labels (record {
  all_numbered = refl;
  all_directed = refl;
  all_ordered = refl;
  turned = refl;
  from_one = refl;
  to_count = refl;
  node_places = refl;
  arc_places = refl;
  face_places = refl;
  object_places = refl;
  link_places = refl;
  nodes = refl;
  arcs = refl;
  faces = refl;
  objects = refl;
  links = refl;
  others = refl;
})

node_laid_out : node_file ≡ layout node_classes (arranged node_classes node_labels node_plan)
unfolding layout printed_zone broken_into content_text line_text next_zone pointer_text point_text digits fraction_digits size_text whole_number fraction_number number
node_laid_out = refl

pub node_form : IsFormOf node_classes node_sheet node_file
node_form =
    canonical_file node_classes node_sheet node_file classes_keep (lit≤ tt) (bytes_of node_file refl)
    (record { plan = node_plan; labels = node_labels; accepted = sheet_accepted; states = states_node; are_labels = labels_hold; laid_out = node_laid_out })

-- ---- the sheet without records

abbrev empty_plan : PlanData
empty_plan = record { cse = None; list = [] }

abbrev empty_labels : Labelling
empty_labels = record { numbers = []; turned = []; others = []; nodes = []; arcs = []; faces = []; objects = []; links = [] }

abbrev no_records : SheetData
no_records = record { cse = None; list = [] }

empty_lines : first_fault (seen_in []) 1 (readings_of empty_sheet) ≡ None
unfolding reading_of has_head
empty_lines = refl

states_none : IsSheetOf empty_sheet no_records
unfolding reading_of has_head
states_none = sheet_as empty_sheet no_records empty_lines refl refl

empty_groups : list_all keeps_rules (groups_of (zones_of empty_sheet)) ≡ true
unfolding reading_of has_head
empty_groups = refl

states_empty : IsPlanOfFile node_classes empty_sheet empty_plan
states_empty = plan_as node_classes empty_sheet no_records empty_plan states_none refl refl

no_references : ReferencesHold node_classes empty_sheet
no_references =
    references_held node_classes empty_sheet (records_as node_classes empty_sheet empty_lines empty_groups) no_records states_none
    (references_as node_classes [] (record { names = refl; classes = refl; attributes = refl; subsets = refl; ends = refl; joins = refl; kinds = refl }))

none_equal : IsUnbroken (BreaksObjectRule empty_plan)
none_equal rule at (repeats_object e at_is less h) = let second = h.second in omega (arith, second)

pub empty_accepted : IsAccepted node_classes empty_sheet
empty_accepted =
    let topology : IsUnbroken (BreaksTopologyRule empty_plan) = λ rule at broken. (let place = (broken_place empty_plan rule at broken).2 in omega (arith, place)) in
    all_held node_classes empty_sheet (topology_held node_classes empty_sheet no_references empty_plan states_empty topology) empty_plan states_empty none_equal

no_labels : AreLabels node_classes empty_plan empty_labels
no_labels = labels_as node_classes empty_plan empty_labels (record {
  all_numbered = refl;
  all_directed = refl;
  all_ordered = refl;
  turned = refl;
  from_one = refl;
  to_count = refl;
  node_places = refl;
  arc_places = refl;
  face_places = refl;
  object_places = refl;
  link_places = refl;
  nodes = refl;
  arcs = refl;
  faces = refl;
  objects = refl;
  links = refl;
  others = refl;
})

empty_laid_out : empty_file ≡ layout node_classes (arranged node_classes empty_labels empty_plan)
unfolding layout printed_zone broken_into content_text line_text next_zone pointer_text point_text digits fraction_digits size_text whole_number fraction_number number
empty_laid_out = refl

pub empty_form : IsFormOf node_classes empty_sheet empty_file
empty_form =
    canonical_file node_classes empty_sheet empty_file classes_keep (lit≤ tt) (bytes_of empty_file refl)
    (record { plan = empty_plan; labels = empty_labels; accepted = empty_accepted; states = states_empty; are_labels = no_labels; laid_out = empty_laid_out })

-- its canonical file is another
files_differ : empty_file ≢ node_file
files_differ e = let same : true ≡ false = ap (λ file. Rattle.std.specs.Prelude.nat_eq (length file) (length empty_file)) e in true≢false same

pub sheets_differ : StateSame node_classes node_sheet empty_file → ⊥
sheets_differ same = files_differ ((node_form.only empty_file empty_form.canonical).0 same)

pub nothing_refused : (106 < 200) × IsLeastBroken (Rattle.edi_compare.specs.Rules.Breaks node_classes []) 106 1
unfolding reading_of has_head
nothing_refused = line_refusal node_classes [] 106 1 (refused_as [] 106 1 refl)
