-- What is printed breaks no rule.
use Rattle.std.specs.Prelude.{ℕ, ◌≤◌, List, map, length, Option, option_map, IfSome}
use Rattle.std.specs.List.{AllByRecursion}
use Rattle.edi_line.specs.Zones.{IsFileOf}
use Rattle.edi_line.specs.Bytes.{most_records}
use Rattle.edi_line.specs.ZoneData.{ZoneData}
use Rattle.edi_line.specs.LineRules.{BreaksLineRule, IsZonesOf}
use Rattle.edi_line.specs.Refusal.{IsUnbroken}
use Rattle.edi_line.specs.Printing.{IsOneLine}
use Rattle.edi_record.specs.RecordRules.{BreaksRecordRule}
use Rattle.edi_record.specs.CanonicalZones.{cse_zone}
use Rattle.edi_record.specs.RecordLayout.{Letters, HasPrintableLetters, zones_of_record, zones_of_sheet, records_layout, IsRecord, IsLineRecord, FollowsRules}
use Rattle.edi_record.specs.declared.record.Record.{Record}

-- the zones of these records are those of a file, and its bytes break no rule of lines and of records
pub record IsSoundFile (s : Letters) (cse : Option (List ℕ)) (rs : List Record) : Type 0 where
  pub file : IsFileOf (zones_of_sheet s cse rs) (option_map cse_zone cse) (map (zones_of_record s) rs)
  pub zones : List ZoneData
  pub are_zones : IsZonesOf (records_layout s cse rs) zones
  pub lines : IsUnbroken (BreaksLineRule (records_layout s cse rs))
  pub records : IsUnbroken (BreaksRecordRule zones)

-- Sheets of at most 9,999,999 records that can be printed are printed without a broken rule.
abbrev pub PrintedSheetsAreSound : Type 0
PrintedSheetsAreSound =
    (s : Letters) (cse : Option (List ℕ)) (rs : List Record) → HasPrintableLetters s → IfSome cse IsOneLine
    → AllByRecursion IsRecord rs → AllByRecursion IsLineRecord rs → AllByRecursion FollowsRules rs
    → length rs ≤ most_records → IsSoundFile s cse rs
