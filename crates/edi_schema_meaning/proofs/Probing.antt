-- Files of a few records, and what they break.
use Rattle.std.proofs.Common.{◌≡◌, ℕ, ◌≤◌, true, false, true≢false, List, [], ◌∷◌, length, map, None, codes, refl, sym, ◌∙◌, subst, arith, lit<}
use Rattle.std.specs.List.{AllByRecursion, AllZip, list_any}
use Rattle.edi_line.proofs.ZonesFound.{zones_of}
use Rattle.edi_line.specs.LineRules.{IsZonesOf}
use Rattle.edi_line.specs.Printing.{IsOneLine, IsPrintable}
use Rattle.edi_line.specs.Zones.{groups_of}
use Rattle.edi_record.proofs.Printable.{sheet_printable}
use Rattle.edi_record.proofs.SheetStated.{sheet_again}
use Rattle.edi_record.proofs.Sound.{sheet_sound}
use Rattle.edi_record.proofs.StatesSaid.{all_said}
use Rattle.edi_record.specs.RecordLayout.{FollowsRules, HasPrintableLetters, IsLineEnd, IsLineName, IsLineRecord, IsName, IsPoint, IsRecord, Letters, records_layout, settled_record, zones_of_sheet}
use Rattle.edi_record.specs.CanonicalZones.{value_text}
use Rattle.edi_record.specs.RecordRules.{is_identifier}
use Rattle.edi_record.specs.inner.Records.{value_of}
use Rattle.edi_record.specs.Records.{SheetData}
use Rattle.edi_record.specs.Shapes.{kind_code}
use Rattle.edi_record.specs.Sound.{IsSoundFile}
use Rattle.edi_record.specs.Texts.{is_semicolon}
use Rattle.edi_record.specs.declared.name.Name.{Name}
use Rattle.edi_record.specs.declared.record.Kind.{Kind}
use Rattle.edi_record.specs.declared.record.Kind.TheVariants.{Pno, Par, Pfe, Fea, Lnk}
use Rattle.edi_record.specs.declared.record.Record.{Record}
use Rattle.edi_record.proofs.FewGroups.{zones_are}
use Rattle.edi_schema.proofs.ReadNames.{whole_text}
use Rattle.edi_schema.specs.Classes.{Classes}
use Rattle.edi_compare.proofs.KnownSheetsTests.{none_is}
use Rattle.edi_compare.proofs.Phases.{records_held}
use Rattle.edi_compare.specs.PlanOfFile.{IsSheetOf}
use Rattle.edi_compare.specs.Rules.{RecordsHold}
use Rattle.edi_schema_meaning.specs.Probes.{arc_of, end_at, face_of, link_of, node_of, plain_letters, probe, spot, valued}

-- ---- what records can be printed

-- what is asked of a record to be printed and read again as it is
pub record CanBeRead (L : Letters) (r : Record) : Type 0 where
  pub is_record : IsRecord r
  pub is_line : IsLineRecord r
  pub follows : FollowsRules r
  pub settled : settled_record L r ≡ r

-- a name that a file can have
pub record IsPlainName (n : Name) : Type 0 where
  pub name : IsName n
  pub line : IsLineName n

kind_name : (kind : Kind) → list_any is_semicolon (kind_code kind) ≡ false
kind_name Pno = refl
kind_name Par = refl
kind_name Pfe = refl
kind_name Fea = refl
kind_name Lnk = refl

kind_line : (kind : Kind) → IsOneLine (kind_code kind)
kind_line Pno = none_is 10 (codes "PNO") refl
kind_line Par = none_is 10 (codes "PAR") refl
kind_line Pfe = none_is 10 (codes "PFE") refl
kind_line Fea = none_is 10 (codes "FEA") refl
kind_line Lnk = none_is 10 (codes "LNK") refl

target_named : (kind : Kind) (rid : List ℕ) → list_any is_semicolon rid ≡ false → IsName (end_at kind rid).target
target_named kind rid h = record { rty = whole_text (kind_code kind) (kind_name kind); rid = whole_text rid h }

end_line : (kind : Kind) (rid : List ℕ) → IsOneLine rid → IsLineEnd (end_at kind rid)
end_line kind rid h = record { target = record { rty = kind_line kind; rid = h }; sns = tt }

spot_is : (x y : ℕ) → x ≤ 1 → y ≤ 1 → IsPoint (spot x y)
spot_is x y hx hy = record { x = omega (arith, hx); y = omega (arith, hy); z = tt }

module _ (L : Letters) (n : Name) (plain : IsPlainName n) where
  pub bare_node : (rid : List ℕ) → is_identifier rid ≡ true → IsOneLine rid → CanBeRead L (node_of n rid [])
  bare_node rid id line = record {
    is_record = record { class = plain.name; points = (spot_is 0 0 (omega arith) (omega arith), tt); no_points = λ h. absurd (true≢false h); ends = tt; no_ends = λ h. refl; classes = tt; extras = tt };
    is_line = record { rid = line; class = plain.line; points = (spot_is 0 0 (omega arith) (omega arith), tt); ends = tt; few = lit< tt; few_points = lit< tt; few_ends = lit< tt; attributes = tt; extras = tt };
    follows = record { identifier = id; shape = refl; few_attributes = lit< tt; few_points = lit< tt; few_ends = lit< tt; pointers = tt };
    settled = refl;
  }

  pub valued_node : (rid value : List ℕ) → is_identifier rid ≡ true → IsOneLine rid → IsOneLine value → value_text (value_of (L.is_number n) value) ≡ value → CanBeRead L (node_of n rid (valued n value ∷ []))
  valued_node rid value id line text same = record {
    is_record = record { class = plain.name; points = (spot_is 0 0 (omega arith) (omega arith), tt); no_points = λ h. absurd (true≢false h); ends = tt; no_ends = λ h. refl; classes = (plain.name, tt); extras = tt };
    is_line = record {
      rid = line;
      class = plain.line;
      points = (spot_is 0 0 (omega arith) (omega arith), tt);
      ends = tt;
      few = lit< tt;
      few_points = lit< tt;
      few_ends = lit< tt;
      attributes = (record { class = plain.line; set = tt; value = text }, tt);
      extras = tt;
    };
    follows = record { identifier = id; shape = refl; few_attributes = lit< tt; few_points = lit< tt; few_ends = lit< tt; pointers = tt };
    settled = λ i. node_of n rid (valued n (same i) ∷ []);
  }

  pub bare_arc : (rid : List ℕ) → is_identifier rid ≡ true → IsOneLine rid → CanBeRead L (arc_of n rid)
  bare_arc rid id line =
      let points : AllByRecursion IsPoint (spot 0 0 ∷ spot 1 0 ∷ []) = (spot_is 0 0 (omega arith) (omega arith), (spot_is 1 0 (omega arith) (omega arith), tt)) in
      record {
        is_record = record { class = plain.name; points = points; no_points = λ h. absurd (true≢false h); ends = tt; no_ends = λ h. refl; classes = tt; extras = tt };
        is_line = record { rid = line; class = plain.line; points = points; ends = tt; few = lit< tt; few_points = lit< tt; few_ends = lit< tt; attributes = tt; extras = tt };
        follows = record { identifier = id; shape = refl; few_attributes = lit< tt; few_points = lit< tt; few_ends = lit< tt; pointers = tt };
        settled = refl;
      }

  pub bare_face : (rid : List ℕ) → is_identifier rid ≡ true → IsOneLine rid → CanBeRead L (face_of n rid)
  bare_face rid id line = record {
    is_record = record { class = plain.name; points = tt; no_points = λ h. refl; ends = tt; no_ends = λ h. refl; classes = tt; extras = tt };
    is_line = record { rid = line; class = plain.line; points = tt; ends = tt; few = lit< tt; few_points = lit< tt; few_ends = lit< tt; attributes = tt; extras = tt };
    follows = record { identifier = id; shape = refl; few_attributes = lit< tt; few_points = lit< tt; few_ends = lit< tt; pointers = tt };
    settled = refl;
  }

  pub bare_link : (rid : List ℕ) (j k : Kind) (a b : List ℕ) → is_identifier rid ≡ true → IsOneLine rid → list_any is_semicolon a ≡ false → IsOneLine a → list_any is_semicolon b ≡ false → IsOneLine b
      → CanBeRead L (link_of n rid (end_at j a) (end_at k b))
  bare_link rid j k a b id line sa la sb lb = record {
    is_record = record { class = plain.name; points = tt; no_points = λ h. refl; ends = (target_named j a sa, (target_named k b sb, tt)); no_ends = λ h. absurd (true≢false h); classes = tt; extras = tt };
    is_line = record { rid = line; class = plain.line; points = tt; ends = (end_line j a la, (end_line k b lb, tt)); few = lit< tt; few_points = lit< tt; few_ends = lit< tt; attributes = tt; extras = tt };
    follows = record { identifier = id; shape = refl; few_attributes = lit< tt; few_points = lit< tt; few_ends = lit< tt; pointers = tt };
    settled = refl;
  }

-- ---- the file of such records

module _ (L : Letters) (printable : HasPrintableLetters L) where
  parts : (P : Record → Type 0) → ((r : Record) → CanBeRead L r → P r) → (rs : List Record) → AllByRecursion (CanBeRead L) rs → AllByRecursion P rs
  parts P f [] all = tt
  parts P f (r ∷ rs) all = (f r all.0, parts P f rs all.1)

  settled_all : (rs : List Record) → AllByRecursion (CanBeRead L) rs → map (settled_record L) rs ≡ rs
  settled_all [] all = refl
  settled_all (r ∷ rs) all = λ i. all.0.settled i ∷ settled_all rs all.1 i

  module _ (rs : List Record) (all : AllByRecursion (CanBeRead L) rs) (few : length rs ≤ 9999999) where
    pub zones_printable : AllByRecursion IsPrintable (zones_of_sheet L None rs)
    zones_printable = sheet_printable L None rs printable tt (parts IsRecord (λ r c. c.is_record) rs all) (parts IsLineRecord (λ r c. c.is_line) rs all)

    sound : IsSoundFile L None rs
    sound = sheet_sound L None rs printable tt (parts IsRecord (λ r c. c.is_record) rs all) (parts IsLineRecord (λ r c. c.is_line) rs all) (parts FollowsRules (λ r c. c.follows) rs all) few

    -- the file states these records
    pub file_sheet : (sheet : SheetData) → sheet.cse ≡ None → sheet.list ≡ rs → IsSheetOf (records_layout L None rs) sheet
    file_sheet sheet cse list =
        let again = sheet_again L None rs zones_printable (parts IsRecord (λ r c. c.is_record) rs all) in
        let are : zones_of (records_layout L None rs) ≡ sound.zones = sym (zones_are (records_layout L None rs) sound.zones sound.are_zones) in (
          zones_of (records_layout L None rs),
          subst (IsZonesOf (records_layout L None rs)) (sym are) sound.are_zones,
          record {
            cse = cse ∙ sym again.0;
            records = subst (AllZip Rattle.edi_record.specs.Records.States (groups_of (zones_of (records_layout L None rs)))) (settled_all rs all ∙ sym list)
                (all_said (groups_of (zones_of (records_layout L None rs))) (map (settled_record L) rs) again.1);
          },
        )

    -- and breaks no rule of lines and of records
    pub file_records : (s : Classes) → RecordsHold s (records_layout L None rs)
    file_records s = records_held s (records_layout L None rs) sound.lines sound.zones sound.are_zones sound.records

-- ---- the probes

plain_printable : HasPrintableLetters plain_letters
plain_printable n = refl

module _ (rs : List Record) (all : AllByRecursion (CanBeRead plain_letters) rs) (few : length rs ≤ 9999999) where
  pub probe_sheet : (sheet : SheetData) → sheet.cse ≡ None → sheet.list ≡ rs → IsSheetOf (probe rs) sheet
  probe_sheet sheet cse list = file_sheet plain_letters plain_printable rs all few sheet cse list

  pub probe_records : (s : Classes) → RecordsHold s (probe rs)
  probe_records s = file_records plain_letters plain_printable rs all few s
