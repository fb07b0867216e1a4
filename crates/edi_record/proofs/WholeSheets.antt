-- A file that breaks no rule of lines and of records states a whole sheet.
use Rattle.std.proofs.Common.{◌≡◌, true, List, [], ◌∷◌, ℕ, refl, arith}
use Rattle.std.specs.List.{AllByRecursion, AllZip, list_all}
use Rattle.std.proofs.lemmas.Bool.{and_from}
use Rattle.edi_line.specs.ZoneData.{ZoneData}
use Rattle.edi_line.specs.LineRules.{BreaksLineRule, IsZonesOf}
use Rattle.edi_line.specs.Refusal.{IsUnbroken}
use Rattle.edi_line.specs.Zones.{groups_of}
use Rattle.edi_record.specs.Shapes.{is_in_shape}
use Rattle.edi_record.specs.Records.{SheetData, StatesSheet}
use Rattle.edi_record.specs.Whole.{IsWholeSheet}
use Rattle.edi_record.specs.RecordRules.{BreaksRecordRule}
use Rattle.edi_record.specs.inner.Records.{ReadsAsRecord}
use Rattle.edi_record.specs.declared.record.Record.{Record}
use Rattle.edi_record.proofs.FewGroups.{few_groups}
use Rattle.edi_record.proofs.ListRead.{zip_length}
use Rattle.edi_record.proofs.Passes.{kind_is}
use Rattle.edi_record.proofs.ReadRecords.{IsKept, all_kept, point_kept, end_kept, shape_read}
use Rattle.edi_record.proofs.RulesSaid.{records_pass}
use Rattle.edi_record.proofs.StatesSaid.{all_read}

in_shape : (group : List ZoneData) (r : Record) → ReadsAsRecord group r → IsKept group → is_in_shape r ≡ true
in_shape group r s kept = shape_read r.kind group r.points r.ends (kind_is group r s) s.points s.ends (point_kept group kept) (end_kept group kept)

all_in_shape : (groups : List (List ZoneData)) (rs : List Record) → AllZip ReadsAsRecord groups rs → AllByRecursion IsKept groups → list_all is_in_shape rs ≡ true
all_in_shape [] [] s kept = refl
all_in_shape [] (r ∷ rs) s kept = absurd s
all_in_shape (g ∷ gs) [] s kept = refl
all_in_shape (g ∷ gs) (r ∷ rs) s kept = and_from (is_in_shape r) (list_all is_in_shape rs) (in_shape g r s.0 kept.0) (all_in_shape gs rs s.1 kept.1)

pub whole_sheet : (bytes : List ℕ) (zones : List ZoneData) (sheet : SheetData) → IsZonesOf bytes zones → IsUnbroken (BreaksLineRule bytes)
    → StatesSheet zones sheet → IsUnbroken (BreaksRecordRule zones) → IsWholeSheet sheet
whole_sheet bytes zones sheet are lines states unbroken =
    let read = all_read (groups_of zones) sheet.list states.records in
    record {
      few = omega (arith, few_groups bytes zones are lines, zip_length (groups_of zones) sheet.list read);
      shape = all_in_shape (groups_of zones) sheet.list read (all_kept zones (records_pass zones unbroken));
    }
