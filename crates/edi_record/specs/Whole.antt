-- What each sheet keeps that was read.
use Rattle.std.specs.Prelude.{ℕ, ◌≤◌, IsTrue, List, length}
use Rattle.std.specs.List.{list_all}
use Rattle.edi_line.specs.Bytes.{most_records}
use Rattle.edi_line.specs.ZoneData.{ZoneData}
use Rattle.edi_line.specs.LineRules.{BreaksLineRule, IsZonesOf}
use Rattle.edi_line.specs.Refusal.{IsUnbroken}
use Rattle.edi_record.specs.RecordRules.{BreaksRecordRule}
use Rattle.edi_record.specs.Records.{SheetData, StatesSheet}
use Rattle.edi_record.specs.Shapes.{is_in_shape}

-- at most 9,999,999 records, each with the points and the ends of its type
pub record IsWholeSheet (sheet : SheetData) : Type 0 where
  pub few : length sheet.list ≤ most_records
  pub shape : IsTrue (list_all is_in_shape sheet.list)

-- The sheet that a file states is whole, where the file breaks no rule of lines and of records.
abbrev pub ReadSheetsAreWhole : Type 0
ReadSheetsAreWhole =
    (bytes : List ℕ) (zones : List ZoneData) (sheet : SheetData) → IsZonesOf bytes zones
    → IsUnbroken (BreaksLineRule bytes)
    → StatesSheet zones sheet → IsUnbroken (BreaksRecordRule zones) → IsWholeSheet sheet
