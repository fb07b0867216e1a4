-- All rules of a sheet, for the whole file, each at a place.
use Rattle.std.specs.Prelude.{ℕ, List}
use Rattle.edi_line.specs.ZoneData.{ZoneData}
use Rattle.edi_line.specs.LineRules.{IsZonesOf, BreaksLineRule}
use Rattle.edi_line.specs.Refusal.{IsUnbroken}
use Rattle.edi_record.specs.RecordRules.{BreaksRecordRule}
use Rattle.edi_record.specs.Records.{SheetData}
use Rattle.edi_schema.specs.Classes.{Classes}
use Rattle.edi_plan.specs.Plans.{PlanData}
use Rattle.edi_plan.specs.ReferenceRules.{BreaksReferenceRule}
use Rattle.edi_topo.specs.TopologyRules.{BreaksTopologyRule}
use Rattle.edi_rank.specs.EqualObjects.{BreaksObjectRule}
use Rattle.edi_compare.specs.PlanOfFile.{IsSheetOf, IsPlanOfFile}

module _ (s : Classes) (b : List ℕ) where
  -- no rule of lines is broken
  abbrev pub LinesHold : Type 0
  LinesHold = IsUnbroken (BreaksLineRule b)

  -- and none of records
  abbrev pub RecordsHold : Type 0
  RecordsHold = LinesHold × ((zones : List ZoneData) → IsZonesOf b zones → IsUnbroken (BreaksRecordRule zones))

  -- and none of references
  abbrev pub ReferencesHold : Type 0
  ReferencesHold =
      RecordsHold × ((sheet : SheetData) → IsSheetOf b sheet → IsUnbroken (BreaksReferenceRule s sheet.list))

  -- and none of topology
  abbrev pub TopologyHolds : Type 0
  TopologyHolds = ReferencesHold × ((p : PlanData) → IsPlanOfFile s b p → IsUnbroken (BreaksTopologyRule p))

  -- A file breaks a rule at a place. The rules of a phase are read only where no rule of an earlier phase is broken.
  pub data Breaks (rule at : ℕ) : Type 0 where
    of_lines : BreaksLineRule b rule at → Breaks rule at
    of_records : (zones : List ZoneData) → LinesHold → IsZonesOf b zones → BreaksRecordRule zones rule at → Breaks rule at
    of_references : (sheet : SheetData) → RecordsHold → IsSheetOf b sheet → BreaksReferenceRule s sheet.list rule at
        → Breaks rule at
    of_topology : (p : PlanData) → ReferencesHold → IsPlanOfFile s b p → BreaksTopologyRule p rule at → Breaks rule at
    of_objects : (p : PlanData) → TopologyHolds → IsPlanOfFile s b p → BreaksObjectRule p rule at → Breaks rule at

-- nothing is broken
abbrev pub IsAccepted : Classes → List ℕ → Type 0
IsAccepted s b = IsUnbroken (Breaks s b)
