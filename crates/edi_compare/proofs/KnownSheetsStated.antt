-- Known sheets of an arc between two nodes, and their plans.
use Rattle.std.proofs.Common.{◌≡◌, refl, ℕ, true, List, [], ◌∷◌, None, codes, subst}
use Rattle.std.specs.List.{list_all}
use Rattle.edi_line.specs.Feeding.{seen_in}
use Rattle.edi_line.specs.Zones.{groups_of}
use Rattle.edi_line.specs.inner.Number.{whole_number, fraction_number, number}
use Rattle.edi_line.specs.inner.Spelling.{reading_of, has_head}
use Rattle.edi_line.specs.inner.Zones.{readings_of}
use Rattle.edi_line.proofs.ZonesFound.{zones_of}
use Rattle.edi_line.proofs.KnownFiles.{first_fault}
use Rattle.edi_record.specs.LinkEnds.{EndData}
use Rattle.edi_record.specs.declared.record.Kind.{Kind}
use Rattle.edi_record.specs.declared.record.Kind.TheVariants.{Pno, Par, Pfe, Fea, Lnk}
use Rattle.edi_record.specs.declared.record.Point.{Point}
use Rattle.edi_record.specs.declared.record.Record.{Record}
use Rattle.edi_record.specs.Records.{SheetData}
use Rattle.edi_record.specs.inner.Records.{set_after, value_after, attributes, sns_after, ends, zones_placed}
use Rattle.edi_record.specs.inner.Texts.{pointer, point_in, count}
use Rattle.edi_compare.specs.Known.{arc_classes, position, turned_arc_sheet, turned_arc_plan, exchanged_sheet, exchanged_plan, reversed_arc_sheet, reversed_arc_plan}
use Rattle.edi_compare.specs.PlanOfFile.{IsSheetOf, IsPlanOfFile, StateSame}
use Rattle.edi_compare.specs.Rules.{RecordsHold}
use Rattle.edi_compare.proofs.KnownSheetsPaired.{arc_carries, not_exchanged}
use Rattle.edi_compare.proofs.KnownSheetsRead.{is_read, to_read, sheet_as, keeps_rules, records_as, plan_as}
use Rattle.edi_compare.proofs.Phases.{one_plan}

abbrev pub plain_record : Kind → List ℕ → List ℕ → List ℕ → List Point → Record
plain_record kind rid rty class points = record { kind = kind; rid = rid; scp = record { rty = rty; rid = class }; points = points; ends = []; attributes = []; extras = [] }

abbrev to_end : List ℕ → List ℕ → EndData
to_end rty rid = record { lot = []; subset = []; target = record { rty = rty; rid = rid }; sns = None }

abbrev link_record : List ℕ → List ℕ → EndData → EndData → Record
link_record rid class d e = record { kind = Lnk; rid = rid; scp = record { rty = codes "REL"; rid = class }; points = []; ends = d ∷ e ∷ []; attributes = []; extras = [] }

abbrev arc_records : List ℕ → List ℕ → List Record
arc_records to_f to_g =
    plain_record Pno (codes "m") (codes "PGE") (codes "NOD_id") (position 1000000 0 ∷ [])
    ∷ plain_record Pno (codes "n") (codes "PGE") (codes "NOD_id") (position 0 0 ∷ [])
    ∷ plain_record Par (codes "a") (codes "PGE") (codes "ARC_id") (position 1000000 0 ∷ position 0 0 ∷ [])
    ∷ plain_record Pfe (codes "f") (codes "PGE") (codes "FAC_id") []
    ∷ plain_record Pfe (codes "g") (codes "PGE") (codes "FAC_id") []
    ∷ plain_record Fea (codes "o") (codes "OBJ") (codes "BAT_id") []
    ∷ link_record (codes "p") (codes "INI_id") (to_end (codes "PAR") (codes "a")) (to_end (codes "PNO") (codes "m"))
    ∷ link_record (codes "q") (codes "FIN_id") (to_end (codes "PAR") (codes "a")) (to_end (codes "PNO") (codes "n"))
    ∷ link_record (codes "r") to_f (to_end (codes "PAR") (codes "a")) (to_end (codes "PFE") (codes "f"))
    ∷ link_record (codes "s") to_g (to_end (codes "PAR") (codes "a")) (to_end (codes "PFE") (codes "g"))
    ∷ link_record (codes "t") (codes "LIE_id") (to_end (codes "FEA") (codes "o")) (to_end (codes "PFE") (codes "f"))
    ∷ link_record (codes "u") (codes "LIE_id") (to_end (codes "PFE") (codes "g")) (to_end (codes "PNO") (codes "m"))
    ∷ []

-- ---- the sheet

abbrev pub arc_sheet : SheetData
arc_sheet = record { cse = None; list = arc_records (codes "GCH_id") (codes "DRT_id") }

pub arc_lines_hold : first_fault (seen_in []) 1 (readings_of turned_arc_sheet) ≡ None
unfolding reading_of has_head
arc_lines_hold = refl

arc_read : is_read turned_arc_sheet arc_sheet.list ≡ to_read arc_sheet.list
unfolding reading_of has_head number whole_number fraction_number pointer point_in set_after value_after attributes sns_after ends zones_placed
arc_read = refl

pub arc_states_sheet : IsSheetOf turned_arc_sheet arc_sheet
unfolding reading_of has_head
arc_states_sheet = sheet_as turned_arc_sheet arc_sheet arc_lines_hold refl arc_read

arc_groups_hold : list_all keeps_rules (groups_of (zones_of turned_arc_sheet)) ≡ true
unfolding reading_of has_head number whole_number fraction_number pointer point_in count zones_placed
arc_groups_hold = refl

pub arc_records_hold : RecordsHold arc_classes turned_arc_sheet
arc_records_hold = records_as arc_classes turned_arc_sheet arc_lines_hold arc_groups_hold

pub arc_states : IsPlanOfFile arc_classes turned_arc_sheet turned_arc_plan
arc_states = plan_as arc_classes turned_arc_sheet arc_sheet turned_arc_plan arc_states_sheet refl refl

-- ---- with the sides exchanged

abbrev pub exchanged_records : SheetData
exchanged_records = record { cse = None; list = arc_records (codes "DRT_id") (codes "GCH_id") }

exchanged_lines_hold : first_fault (seen_in []) 1 (readings_of exchanged_sheet) ≡ None
unfolding reading_of has_head
exchanged_lines_hold = refl

exchanged_read : is_read exchanged_sheet exchanged_records.list ≡ to_read exchanged_records.list
unfolding reading_of has_head number whole_number fraction_number pointer point_in set_after value_after attributes sns_after ends zones_placed
exchanged_read = refl

pub exchanged_states_sheet : IsSheetOf exchanged_sheet exchanged_records
unfolding reading_of has_head
exchanged_states_sheet = sheet_as exchanged_sheet exchanged_records exchanged_lines_hold refl exchanged_read

exchanged_groups_hold : list_all keeps_rules (groups_of (zones_of exchanged_sheet)) ≡ true
unfolding reading_of has_head number whole_number fraction_number pointer point_in count zones_placed
exchanged_groups_hold = refl

pub exchanged_records_hold : RecordsHold arc_classes exchanged_sheet
exchanged_records_hold = records_as arc_classes exchanged_sheet exchanged_lines_hold exchanged_groups_hold

pub exchanged_states : IsPlanOfFile arc_classes exchanged_sheet exchanged_plan
exchanged_states = plan_as arc_classes exchanged_sheet exchanged_records exchanged_plan exchanged_states_sheet refl refl

pub not_same : ¬ (StateSame arc_classes turned_arc_sheet exchanged_sheet)
not_same same =
    let first = one_plan arc_classes turned_arc_sheet same.0 turned_arc_plan same.2 arc_states in
    let second = one_plan arc_classes exchanged_sheet same.1 exchanged_plan same.3 exchanged_states in
    not_exchanged (subst (λ p. Rattle.edi_rank.specs.Same.Same arc_classes p exchanged_plan) first (subst (Rattle.edi_rank.specs.Same.Same arc_classes same.0) second same.4))

-- ---- the other presentation

abbrev pub reversed_records : SheetData
reversed_records = record {
  cse = None;
  list =
      link_record (codes "1") (codes "LIE_id") (to_end (codes "PFE") (codes "f2")) (to_end (codes "PNO") (codes "n2"))
      ∷ link_record (codes "2") (codes "LIE_id") (to_end (codes "FEA") (codes "o1")) (to_end (codes "PFE") (codes "f1"))
      ∷ plain_record Fea (codes "o1") (codes "OBJ") (codes "BAT_id") []
      ∷ link_record (codes "3") (codes "GCH_id") (to_end (codes "PAR") (codes "a1")) (to_end (codes "PFE") (codes "f2"))
      ∷ link_record (codes "4") (codes "DRT_id") (to_end (codes "PAR") (codes "a1")) (to_end (codes "PFE") (codes "f1"))
      ∷ link_record (codes "5") (codes "INI_id") (to_end (codes "PAR") (codes "a1")) (to_end (codes "PNO") (codes "n1"))
      ∷ link_record (codes "6") (codes "FIN_id") (to_end (codes "PAR") (codes "a1")) (to_end (codes "PNO") (codes "n2"))
      ∷ plain_record Pfe (codes "f1") (codes "PGE") (codes "FAC_id") []
      ∷ plain_record Pfe (codes "f2") (codes "PGE") (codes "FAC_id") []
      ∷ plain_record Par (codes "a1") (codes "PGE") (codes "ARC_id") (position 0 0 ∷ position 1000000 0 ∷ [])
      ∷ plain_record Pno (codes "n1") (codes "PGE") (codes "NOD_id") (position 0 0 ∷ [])
      ∷ plain_record Pno (codes "n2") (codes "PGE") (codes "NOD_id") (position 1000000 0 ∷ [])
      ∷ [];
}

reversed_lines_hold : first_fault (seen_in []) 1 (readings_of reversed_arc_sheet) ≡ None
unfolding reading_of has_head
reversed_lines_hold = refl

reversed_read : is_read reversed_arc_sheet reversed_records.list ≡ to_read reversed_records.list
unfolding reading_of has_head number whole_number fraction_number pointer point_in set_after value_after attributes sns_after ends zones_placed
reversed_read = refl

pub reversed_states_sheet : IsSheetOf reversed_arc_sheet reversed_records
unfolding reading_of has_head
reversed_states_sheet = sheet_as reversed_arc_sheet reversed_records reversed_lines_hold refl reversed_read

reversed_groups_hold : list_all keeps_rules (groups_of (zones_of reversed_arc_sheet)) ≡ true
unfolding reading_of has_head number whole_number fraction_number pointer point_in count zones_placed
reversed_groups_hold = refl

pub reversed_records_hold : RecordsHold arc_classes reversed_arc_sheet
reversed_records_hold = records_as arc_classes reversed_arc_sheet reversed_lines_hold reversed_groups_hold

pub reversed_states : IsPlanOfFile arc_classes reversed_arc_sheet reversed_arc_plan
reversed_states = plan_as arc_classes reversed_arc_sheet reversed_records reversed_arc_plan reversed_states_sheet refl refl

pub states_same : StateSame arc_classes turned_arc_sheet reversed_arc_sheet
states_same = (turned_arc_plan, reversed_arc_plan, arc_states, reversed_states, (_, _, arc_carries))
