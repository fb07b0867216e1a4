-- What a group of zones states.
use Rattle.std.specs.Prelude.{◌≡◌, ℕ, Bool, true, false, ◌||◌, List, [], ◌∷◌, ◌++◌, map, filter, ◌==◌, if◌then◌else◌, codes, bytes_eq, Option, Some, None, option_map, unwrap_or, ℤ}
use Rattle.std.specs.List.{list_any, before_first, AllZip}
pub use Rattle.edi_line.specs.ZoneData.{first}
use Rattle.edi_line.specs.ZoneData.{ZoneData, has_code}
use Rattle.edi_line.specs.Made.{AreMadeFrom}
use Rattle.edi_line.specs.Number.{IsNumberText}
use Rattle.edi_line.specs.Zones.{charset_of, groups_of, begins_group, before_end}
use Rattle.edi_record.specs.Bytes.{letter_n, letter_r}
use Rattle.edi_record.specs.Shapes.{kind_code}
use Rattle.edi_record.specs.Texts.{IsPointer, PointsTo, IsPosition}
use Rattle.edi_record.specs.declared.record.Kind.{Kind}
use Rattle.edi_record.specs.declared.record.Kind.TheVariants.{Pno, Par, Lnk}
use Rattle.edi_record.specs.declared.record.Record.{Record}
use Rattle.edi_record.specs.declared.record.Attribute.{Attribute}
use Rattle.edi_record.specs.declared.record.Extra.{Extra}
use Rattle.edi_record.specs.declared.record.Value.{Value}
use Rattle.edi_record.specs.declared.record.Value.TheVariants.{Number, Bytes}
use Rattle.edi_record.specs.LinkEnds.{EndData}

-- nodes and arcs
abbrev pub has_points : Kind → Bool
has_points Pno = true
has_points Par = true
has_points _ = false

-- the type of links
abbrev pub is_link : Kind → Bool
is_link Lnk = true
is_link _ = false

-- the values of the zones with a code, in their order
abbrev pub values : List ℕ → List ZoneData → List (List ℕ)
values code group = map (λ z. z.value) (filter (has_code code) group)

-- behind the last zone that begins a stretch these have come, none of which ends it
pub record IsSince (begins ends : ZoneData → Bool) (front since : List ZoneData) : Type 0 where
  pub before : List ZoneData
  pub head : ZoneData
  pub cut : front ≡ before ++ head ∷ since
  pub begun : begins head ≡ true
  pub goes_on : list_any ends since ≡ false

-- ---- attributes

-- a zone that opens an attribute
abbrev pub opens : ZoneData → Bool
opens z = has_code (codes "ATP") z

-- a zone that closes it
abbrev pub closes : ZoneData → Bool
closes z = has_code (codes "ATV") z

-- an attribute is open behind these zones, and of them these belong to it: no ATP and no ATV came behind its ATP
abbrev pub IsOpen : List ZoneData → List ZoneData → Type 0
IsOpen front since = IsSince opens (λ z. opens z || closes z) front since

-- the attribute of an ATP: with the first TEX and the first ATV before the next ATP, the TEX not behind that ATV
pub record IsAttributeAt (front : List ZoneData) (z : ZoneData) (behind : List ZoneData) (a : Attribute) : Type 0 where
  pub class : PointsTo z.value a.atp
  pub set : a.tex ≡ first (values (codes "TEX") (before_first closes (before_first opens behind)))
  pub value : a.atv ≡ unwrap_or (first (values (codes "ATV") (before_first opens behind))) []

-- ---- ends

-- a zone that begins an end
abbrev pub points_at : ZoneData → Bool
points_at z = has_code (codes "FTP") z

-- the end of an FTP: with the first SNS before the next FTP
pub record IsEndAt (front : List ZoneData) (z : ZoneData) (behind : List ZoneData) (e : EndData) : Type 0 where
  pub names : IsPointer z.value (record { lot = e.lot; subset = e.subset; rty = e.target.rty; rid = e.target.rid })
  pub sns : e.sns ≡ first (values (codes "SNS") (before_first points_at behind))

-- ---- extras

-- the codes known in every record
abbrev pub known_anywhere : List (List ℕ)
known_anywhere =
    codes "RTY" ∷ codes "RID" ∷ codes "SCP" ∷ codes "ATC" ∷ codes "ATP" ∷ codes "ATV" ∷ codes "QAC" ∷ codes "QAP" ∷ []

-- the codes known in records of this type alone
abbrev pub known_in : Kind → List (List ℕ)
known_in Pno = codes "COR" ∷ []
known_in Par = codes "COR" ∷ codes "PTC" ∷ []
known_in Lnk = codes "FTC" ∷ codes "FTP" ∷ codes "SNS" ∷ []
known_in _ = []

-- the code is known in records of this type
abbrev pub is_known : Kind → List ℕ → Bool
is_known kind code = list_any (bytes_eq code) known_anywhere || list_any (bytes_eq code) (known_in kind)

-- a zone whose code isn't known behind these zones: TEX is known where an attribute is open
pub record IsExtraAt (kind : Kind) (front : List ZoneData) (z : ZoneData) : Type 0 where
  pub unknown : is_known kind z.code ≡ false
  pub no_set : (since : List ZoneData) → IsOpen front since → has_code (codes "TEX") z ≡ false

-- a number where the text may be one and is one, and else its bytes
abbrev pub IsValueOf : Type 0 → List ℕ → Value → Type 0
IsValueOf may text (Number m) = may × IsNumberText text m
IsValueOf may text (Bytes bytes) = (bytes ≡ text) × (may → (m : ℤ) → ¬ (IsNumberText text m))

-- the formats `N` and `R`
abbrev pub may_be_number : ℕ → Bool
may_be_number format = (format == letter_n) || (format == letter_r)

-- the extra that a zone states
pub record IsExtraOf (front : List ZoneData) (z : ZoneData) (behind : List ZoneData) (e : Extra) : Type 0 where
  pub code : e.code ≡ z.code
  pub nature : e.nature ≡ z.nature
  pub format : e.format ≡ z.format
  pub value : IsValueOf (may_be_number z.format ≡ true) z.value e.value

-- ---- records

-- a group of zones states a record
pub record States (group : List ZoneData) (r : Record) : Type 0 where
  pub type : values (codes "RTY") group ≡ kind_code r.kind ∷ []
  pub rid : values (codes "RID") group ≡ r.rid ∷ []
  pub scp : (text : List ℕ) × (values (codes "SCP") group ≡ text ∷ []) × PointsTo text r.scp
  pub points : AllZip IsPosition (if has_points r.kind then values (codes "COR") group else []) r.points
  pub ends : AreMadeFrom (λ front z. points_at z ≡ true) IsEndAt [] (if is_link r.kind then group else []) r.ends
  pub attributes : AreMadeFrom (λ front z. opens z ≡ true) IsAttributeAt [] group r.attributes
  pub extras : AreMadeFrom (IsExtraAt r.kind) IsExtraOf [] group r.extras

-- a sheet: its character set, if it states one, and its records in file order
pub record SheetData : Type 0 where
  pub cse : Option (List ℕ)
  pub list : List Record

-- the zones of a file state the records of a sheet, in their order
pub record StatesSheet (zones : List ZoneData) (sheet : SheetData) : Type 0 where
  pub cse : sheet.cse ≡ option_map (λ e. e.value) (charset_of zones)
  pub records : AllZip States (groups_of zones) sheet.list

-- the zones of the record that begins with the first of these, if one does
abbrev pub group_at : List ZoneData → Option (List ZoneData)
group_at [] = None
group_at (z ∷ zs) = if begins_group z then Some (z ∷ before_end zs) else None
