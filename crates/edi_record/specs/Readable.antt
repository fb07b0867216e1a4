-- What was read can be printed.
use Rattle.std.specs.Prelude.{ℕ, ◌<◌, ◌^◌, List, length, IfSome}
use Rattle.std.specs.List.{AllByRecursion}
use Rattle.edi_line.specs.ZoneData.{ZoneData}
use Rattle.edi_line.specs.LineRules.{BreaksLineRule, IsZonesOf}
use Rattle.edi_line.specs.Refusal.{IsUnbroken}
use Rattle.edi_line.specs.Printing.{IsOneLine}
use Rattle.edi_record.specs.Records.{StatesSheet, SheetData}
use Rattle.edi_record.specs.RecordRules.{BreaksRecordRule}
use Rattle.edi_record.specs.RecordLayout.{IsRecord, IsLineRecord, FollowsRules}

-- what a sheet needs to be printed and read again
pub record IsPrintableSheet (sheet : SheetData) : Type 0 where
  pub cse : IfSome sheet.cse IsOneLine
  pub records : AllByRecursion IsRecord sheet.list
  pub lines : AllByRecursion IsLineRecord sheet.list
  pub rules : AllByRecursion FollowsRules sheet.list

-- The sheet that a file states can be printed, where the file breaks no rule of lines and of records.
abbrev pub ReadSheetsArePrintable : Type 0
ReadSheetsArePrintable =
    (bytes : List ℕ) (zones : List ZoneData) (sheet : SheetData) → length bytes < 2 ^ 64 → IsZonesOf bytes zones
    → IsUnbroken (BreaksLineRule bytes)
    → StatesSheet zones sheet → IsUnbroken (BreaksRecordRule zones) → IsPrintableSheet sheet
