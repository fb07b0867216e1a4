-- The names of the records of a sheet.
use Rattle.std.specs.Prelude.{◌≡◌, ℕ, ◌<◌, ◌≤◌, ◌||◌, ◌==◌, Bool, false, List, [], map, length, slice_index_or}
use Rattle.std.specs.List.{list_any}
use Rattle.edi_line.specs.Bytes.{line_feed, most_records, semicolon}
use Rattle.edi_record.specs.declared.record.Kind.TheVariants.{Pno}
use Rattle.edi_record.specs.declared.record.Record.{Record}
use Rattle.edi_record.specs.Records.{SheetData}
use Rattle.edi_compare.specs.PlanOfFile.{IsSheetOf}
use Rattle.edi_pairing.specs.declared.names.RecordName.{RecordName}

-- the names of records, in their order
abbrev pub names_of : List Record → List RecordName
names_of list = map (λ r. record { kind = r.kind; rid = r.rid }) list

-- the name at a place, from 0
abbrev pub name_at : List RecordName → ℕ → RecordName
name_at names place = slice_index_or names place (record { kind = Pno; rid = [] })

-- the two bytes that end an identifier in a line
abbrev pub is_mark : ℕ → Bool
is_mark c = c == semicolon || c == line_feed

-- what holds of the names of an accepted sheet: identifiers hold neither mark, and no two records have one name
pub record AreNames (names : List RecordName) : Type 0 where
  pub few : length names ≤ most_records
  pub plain : (k : ℕ) → k < length names → list_any is_mark (name_at names k).rid ≡ false
  pub distinct : (j k : ℕ) → j < length names → k < length names → name_at names j ≡ name_at names k → j ≡ k

-- the names of the records that a file states
abbrev pub AreNamesOf : List ℕ → List RecordName → Type 0
AreNamesOf bytes names = (sheet : SheetData) × IsSheetOf bytes sheet × (names ≡ names_of sheet.list)
