-- The zones of records in the order of the canonical file, with whatever identifiers they have: what is read again of
-- them.
use Rattle.std.specs.Prelude.{◌≡◌, ℕ, Bool, true, false, List, [], ◌∷◌, ◌++◌, map, length, flat_map, codes, Option, None, option_map, option_to_list, ◌<◌, ◌≤◌, ◌^◌, not, IfSome, bytes_eq}
use Rattle.std.specs.List.{AllByRecursion, AllZip, list_any}
use Rattle.edi_line.specs.Zones.{IsZonesIn, groups_of, charset_of}
use Rattle.edi_line.specs.ZoneData.{ZoneData}
use Rattle.edi_line.specs.Spelling.{is_printable, Reading, AreReadings}
use Rattle.edi_line.specs.Number.{size_of, MOST}
use Rattle.edi_line.specs.inner.Number.{number}
use Rattle.edi_line.specs.Printing.{printed, is_code, IsOneLine, IsPrintable}
use Rattle.edi_record.specs.Texts.{HasNoSemicolon}
use Rattle.edi_record.specs.Bytes.{letter_p}
use Rattle.edi_record.specs.RecordRules.{BreaksGroupRule, is_identifier}
use Rattle.edi_record.specs.Shapes.{is_in_shape}
use Rattle.edi_record.specs.Records.{States, has_points, is_link, is_known, may_be_number}
use Rattle.edi_record.specs.inner.Records.{value_of}
use Rattle.edi_record.specs.declared.name.Name.{Name}
use Rattle.edi_record.specs.declared.record.Kind.{Kind}
use Rattle.edi_record.specs.declared.record.Kind.TheVariants.{Pno, Par, Pfe, Fea, Lnk}
use Rattle.edi_record.specs.declared.record.Record.{Record}
use Rattle.edi_record.specs.declared.record.Attribute.{Attribute}
use Rattle.edi_record.specs.declared.record.Extra.{Extra}
use Rattle.edi_record.specs.declared.record.Value.{Value}
use Rattle.edi_record.specs.declared.record.Value.TheVariants.{Number, Bytes}
use Rattle.edi_record.specs.LinkEnds.{EndData}
use Rattle.edi_record.specs.declared.record.Point.{Point}
use Rattle.edi_record.specs.CanonicalZones.{value_text, type_zone, identifier_zone, class_zone, point_count_zone, point_zone, end_count_zone, target_zone, sns_zone, attribute_count_zone, attribute_zone, set_zone, value_zone, extra_zone, begin_zone, cse_zone, end_zone}

-- what the schema says of an attribute's class
pub record Letters : Type 0 where
  pub letter : Name → ℕ
  pub is_number : Name → Bool

unfoldable pub zones_of_attribute : Letters → Attribute → List ZoneData
zones_of_attribute s a =
    attribute_zone a.atp
    ∷ map set_zone (option_to_list a.tex)
    ++ value_zone (s.letter a.atp) (value_of (s.is_number a.atp) a.atv) ∷ []

unfoldable pub zones_of_end : EndData → List ZoneData
zones_of_end e = target_zone e.target ∷ map sns_zone (option_to_list e.sns)

-- the count of points or ends, where there is one
abbrev pub count_zones : Kind → ℕ → ℕ → List ZoneData
count_zones Pno points ends = []
count_zones Par points ends = point_count_zone points ∷ []
count_zones Pfe points ends = []
count_zones Fea points ends = []
count_zones Lnk points ends = end_count_zone ends ∷ []

unfoldable pub zones_of_body : Kind → List Point → List EndData → List ZoneData
zones_of_body kind points ends =
    count_zones kind (length points) (length ends) ++ (map point_zone points ++ flat_map zones_of_end ends)

unfoldable pub zones_of_record : Letters → Record → List ZoneData
zones_of_record s r =
    type_zone r.kind ∷ identifier_zone r.rid ∷ class_zone r.scp
    ∷ (zones_of_body r.kind r.points r.ends
    ++ (attribute_count_zone (length r.attributes)
    ∷ (flat_map (zones_of_attribute s) r.attributes ++ map extra_zone r.extras)))

abbrev pub zones_of_sheet : Letters → Option (List ℕ) → List Record → List ZoneData
zones_of_sheet s cse rs =
    begin_zone ∷ (map cse_zone (option_to_list cse) ++ (flat_map (zones_of_record s) rs ++ end_zone ∷ []))

-- the bytes of the records with their character set
abbrev pub records_layout : Letters → Option (List ℕ) → List Record → List ℕ
records_layout s cse rs = printed (zones_of_sheet s cse rs)

-- ---- what a record needs to be read again

-- a value as reading gives it
abbrev pub IsOwnValue : Bool → Value → Type 0
IsOwnValue may (Number m) = (may ≡ true) × (size_of m ≤ MOST)
IsOwnValue may (Bytes text) = may ≡ true → number text ≡ None

-- a code that zones of a record may have
abbrev pub is_free : List ℕ → Bool
is_free code = not (list_any (bytes_eq code) (codes "NEX" ∷ codes "REM" ∷ codes "BOM" ∷ codes "CSE" ∷ codes "EOM" ∷ []))

pub record IsExtra (kind : Kind) (e : Extra) : Type 0 where
  pub unknown : is_known kind e.code ≡ false
  pub own : IsOwnValue (may_be_number e.format) e.value
  pub free : is_free e.code ≡ true

pub record IsName (n : Name) : Type 0 where
  pub rty : HasNoSemicolon n.rty
  pub rid : HasNoSemicolon n.rid

pub record IsPoint (p : Point) : Type 0 where
  pub x : size_of p.x ≤ MOST
  pub y : size_of p.y ≤ MOST
  pub z : IfSome p.z (λ z. size_of z ≤ MOST)

-- what a record needs to be read again: points and ends only where its kind has them
pub record IsRecord (r : Record) : Type 0 where
  pub class : IsName r.scp
  pub points : AllByRecursion IsPoint r.points
  pub no_points : has_points r.kind ≡ false → r.points ≡ []
  pub ends : AllByRecursion (λ e. IsName e.target) r.ends
  pub no_ends : is_link r.kind ≡ false → r.ends ≡ []
  pub classes : AllByRecursion (λ a. IsName a.atp) r.attributes
  pub extras : AllByRecursion (IsExtra r.kind) r.extras

-- the end as it is written
abbrev pub settled_end : EndData → EndData
settled_end e = record { lot = codes "CANON"; subset = codes "S"; target = e.target; sns = e.sns }

-- the attribute with its value as it is written
abbrev pub settled : Letters → Attribute → Attribute
settled s a = record { atp = a.atp; tex = a.tex; atv = value_text (value_of (s.is_number a.atp) a.atv) }

-- the record with each attribute's value as it is written
abbrev pub settled_record : Letters → Record → Record
settled_record s r =
    record {
      kind = r.kind;
      rid = r.rid;
      scp = r.scp;
      points = r.points;
      ends = map settled_end r.ends;
      attributes = map (settled s) r.attributes;
      extras = r.extras;
    }

-- ---- what texts need to be printed in lines

pub record IsLineName (n : Name) : Type 0 where
  pub rty : IsOneLine n.rty
  pub rid : IsOneLine n.rid

pub record IsLineAttribute (a : Attribute) : Type 0 where
  pub class : IsLineName a.atp
  pub set : IfSome a.tex IsOneLine
  pub value : IsOneLine a.atv

abbrev pub IsLineValue : Value → Type 0
IsLineValue (Number m) = (size_of m ≤ MOST)
IsLineValue (Bytes text) = IsOneLine text

pub record IsLineExtra (e : Extra) : Type 0 where
  pub code : is_code e.code ≡ true
  pub nature : is_printable e.nature ≡ true
  pub format : is_printable e.format ≡ true
  pub value : IsLineValue e.value

pub record IsLineEnd (e : EndData) : Type 0 where
  pub target : IsLineName e.target
  pub sns : IfSome e.sns IsOneLine

pub record IsLineRecord (r : Record) : Type 0 where
  pub rid : IsOneLine r.rid
  pub class : IsLineName r.scp
  pub points : AllByRecursion IsPoint r.points
  pub ends : AllByRecursion IsLineEnd r.ends
  pub few : length r.attributes < 2 ^ 64
  pub few_points : length r.points < 2 ^ 64
  pub few_ends : length r.ends < 2 ^ 64
  pub attributes : AllByRecursion IsLineAttribute r.attributes
  pub extras : AllByRecursion IsLineExtra r.extras

abbrev pub HasPrintableLetters : Letters → Type 0
HasPrintableLetters s = (n : Name) → is_printable (s.letter n) ≡ true

-- The records_layout of records states them, with their ends and values as they are written.
abbrev pub LayoutIsReadAgain : Type 0
LayoutIsReadAgain =
    (s : Letters) (cse : Option (List ℕ)) (rs : List Record) (readings : List Reading) (zones : List ZoneData)
    → AllByRecursion IsPrintable (zones_of_sheet s cse rs) → AllByRecursion IsRecord rs
    → AreReadings (records_layout s cse rs) readings → IsZonesIn readings zones
    → (option_map (λ (e : ZoneData). e.value) (charset_of zones) ≡ cse)
    × AllZip States (groups_of zones) (map (settled_record s) rs)

-- what holds of a record that was read from zones which break no rule of records
pub record FollowsRules (r : Record) : Type 0 where
  pub identifier : is_identifier r.rid ≡ true
  pub shape : is_in_shape r ≡ true
  pub few_attributes : length r.attributes < 2 ^ 64
  pub few_points : length r.points < 2 ^ 64
  pub few_ends : length r.ends < 2 ^ 64
  pub pointers : AllByRecursion (λ e. e.format ≡ letter_p → value_text e.value ≡ []) r.extras

-- The zones of such a record break no rule of records.
abbrev pub PrintedRecordsAreUnbroken : Type 0
PrintedRecordsAreUnbroken =
    (s : Letters) (r : Record) → IsRecord r → FollowsRules r → (rule : ℕ)
    → ¬ (BreaksGroupRule (zones_of_record s r) rule)

-- Sheets whose texts are each one line can be printed.
abbrev pub SheetsArePrintable : Type 0
SheetsArePrintable =
    (s : Letters) (cse : Option (List ℕ)) (rs : List Record) → HasPrintableLetters s → IfSome cse IsOneLine
    → AllByRecursion IsRecord rs → AllByRecursion IsLineRecord rs
    → AllByRecursion IsPrintable (zones_of_sheet s cse rs)
