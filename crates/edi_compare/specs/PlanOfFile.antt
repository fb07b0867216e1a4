-- The plan that a file states under a schema.
use Rattle.std.specs.Prelude.{ℕ, List}
use Rattle.edi_line.specs.ZoneData.{ZoneData}
use Rattle.edi_line.specs.LineRules.{IsZonesOf}
use Rattle.edi_record.specs.Records.{StatesSheet, SheetData}
use Rattle.edi_schema.specs.Classes.{Classes}
use Rattle.edi_plan.specs.Plans.{PlanData}
use Rattle.edi_plan.specs.PlanOf.{IsPlanOf}
use Rattle.edi_rank.specs.Same.{Same}

-- the sheet that a file states
abbrev pub IsSheetOf : List ℕ → SheetData → Type 0
IsSheetOf b sheet = (zones : List ZoneData) × IsZonesOf b zones × StatesSheet zones sheet

-- the plan that the records of a file state
abbrev pub IsPlanOfFile : Classes → List ℕ → PlanData → Type 0
IsPlanOfFile s b p = (sheet : SheetData) × IsSheetOf b sheet × IsPlanOf s sheet p

-- two files state the same plan
abbrev pub StateSame : Classes → List ℕ → List ℕ → Type 0
StateSame s b c = (p q : PlanData) × IsPlanOfFile s b p × IsPlanOfFile s c q × Same s p q
