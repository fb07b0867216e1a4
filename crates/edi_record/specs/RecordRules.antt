-- The rules of records.
use Rattle.std.specs.Prelude.{◌≡◌, ◌≢◌, ◌⊎◌, ℕ, ◌+◌, ◌<◌, Bool, true, false, not, ◌&&◌, nat_le, List, [], ◌∷◌, ◌++◌, length, Some, codes, Any}
use Rattle.std.specs.List.{list_any}
use Rattle.edi_line.specs.ZoneData.{ZoneData, has_code, first}
use Rattle.edi_line.specs.Zones.{groups_of}
use Rattle.edi_record.specs.Bytes.{letter_p}
use Rattle.edi_record.specs.Records.{values, has_points, IsSince, closes, IsOpen, points_at, IsExtraAt}
use Rattle.edi_record.specs.Shapes.{kind_code}
use Rattle.edi_record.specs.Texts.{is_semicolon, PointerText, IsPointer, IsPosition, IsCount}
use Rattle.edi_record.specs.declared.record.Kind.{Kind}
use Rattle.edi_record.specs.declared.record.Kind.TheVariants.{Pno, Par, Lnk}
use Rattle.edi_record.specs.declared.record.Point.{Point}

-- there is just one, and it passes the test
abbrev pub just_one : (List ℕ → Bool) → List (List ℕ) → Bool
just_one test (text ∷ []) = test text
just_one test _ = false

-- 1 to 255 bytes, and no semicolon
abbrev pub is_identifier : List ℕ → Bool
is_identifier text = nat_le 1 (length text) && (nat_le (length text) 255 && not (list_any is_semicolon text))

-- not exactly one RID in form
abbrev pub has_no_identifier : List ZoneData → Bool
has_no_identifier group = not (just_one is_identifier (values (codes "RID") group))

-- the first RTY names the kind
abbrev pub IsOfKind : List ZoneData → Kind → Type 0
IsOfKind group kind = first (values (codes "RTY") group) ≡ Some (kind_code kind)

-- the text is no pointer
abbrev pub IsNoPointer : List ℕ → Type 0
IsNoPointer text = (p : PointerText) → ¬ (IsPointer text p)

-- no count, or just one, of so many
abbrev pub Counts : List (List ℕ) → ℕ → Type 0
Counts texts n = (texts ≡ []) ⊎ ((text : List ℕ) × (texts ≡ text ∷ []) × IsCount text n)

module _ (group : List ZoneData) where
  -- a zone of the group, behind these
  abbrev pub IsIn : List ZoneData → ZoneData → Type 0
  IsIn front z = (behind : List ZoneData) × (group ≡ front ++ z ∷ behind)

  -- 201: the type isn't one of the five
  abbrev pub LacksKind : Type 0
  LacksKind = (kind : Kind) → ¬ (IsOfKind group kind)

  -- 203: not exactly one SCP that is a pointer
  abbrev pub LacksClass : Type 0
  LacksClass = (text : List ℕ) → values (codes "SCP") group ≡ text ∷ [] → IsNoPointer text

  -- 204: an ATP is no pointer; an ATV where no attribute is open; a second TEX in one open attribute
  pub data HasBadAttribute : Type 0 where
    no_pointer : Any IsNoPointer (values (codes "ATP") group) → HasBadAttribute
    stray_value : (front : List ZoneData) (z : ZoneData) → IsIn front z → closes z ≡ true
        → ((since : List ZoneData) → ¬ (IsOpen front since)) → HasBadAttribute
    second_set : (front since : List ZoneData) (z : ZoneData) → IsIn front z → has_code (codes "TEX") z ≡ true
        → IsOpen front since → list_any (has_code (codes "TEX")) since ≡ true → HasBadAttribute

  -- the zones with one code aren't as many as the zone with the other says
  abbrev pub CountsWrong : List ℕ → List ℕ → Type 0
  CountsWrong counting counted = ¬ (Counts (values counting group) (length (values counted group)))

  -- 205: a wrong ATC; a wrong PTC of an arc; a wrong FTC of a link
  pub data HasWrongCount : Type 0 where
    of_attributes : CountsWrong (codes "ATC") (codes "ATP") → HasWrongCount
    of_points : IsOfKind group Par → CountsWrong (codes "PTC") (codes "COR") → HasWrongCount
    of_ends : IsOfKind group Lnk → CountsWrong (codes "FTC") (codes "FTP") → HasWrongCount

  -- 206: a COR of a node or an arc is no position; a node without exactly one COR; an arc with fewer than two
  pub data HasBadPoint : Type 0 where
    no_position : (kind : Kind) → IsOfKind group kind → has_points kind ≡ true
        → Any (λ text. (p : Point) → ¬ (IsPosition text p)) (values (codes "COR") group) → HasBadPoint
    of_node : IsOfKind group Pno → length (values (codes "COR") group) ≢ 1 → HasBadPoint
    of_arc : IsOfKind group Par → length (values (codes "COR") group) < 2 → HasBadPoint

  -- 207: of a link, an FTP is no pointer; fewer than two ends; an SNS before any FTP; a second SNS behind one FTP
  pub data HasBadEnd : Type 0 where
    no_pointer : Any IsNoPointer (values (codes "FTP") group) → HasBadEnd
    few : length (values (codes "FTP") group) < 2 → HasBadEnd
    stray_sense : (front : List ZoneData) (z : ZoneData) → IsIn front z → has_code (codes "SNS") z ≡ true
        → list_any points_at front ≡ false → HasBadEnd
    second_sense : (front since : List ZoneData) (z : ZoneData) → IsIn front z → has_code (codes "SNS") z ≡ true
        → IsSince points_at points_at front since
        → list_any (has_code (codes "SNS")) since ≡ true → HasBadEnd

  -- 208: an extra with format `P` and a value that isn't empty
  pub record HasUnknownPointer : Type 0 where
    pub kind : Kind
    pub is_kind : IsOfKind group kind
    pub front : List ZoneData
    pub zone : ZoneData
    pub is_in : IsIn front zone
    pub extra : IsExtraAt kind front zone
    pub format : zone.format ≡ letter_p
    pub some : zone.value ≢ []

  -- the group breaks a rule
  pub data BreaksGroupRule (rule : ℕ) : Type 0 where
    lacks_kind : rule ≡ 201 → LacksKind → BreaksGroupRule rule
    lacks_identifier : rule ≡ 202 → has_no_identifier group ≡ true → BreaksGroupRule rule
    lacks_class : rule ≡ 203 → LacksClass → BreaksGroupRule rule
    bad_attribute : rule ≡ 204 → HasBadAttribute → BreaksGroupRule rule
    wrong_count : rule ≡ 205 → HasWrongCount → BreaksGroupRule rule
    bad_point : rule ≡ 206 → HasBadPoint → BreaksGroupRule rule
    bad_end : rule ≡ 207 → IsOfKind group Lnk → HasBadEnd → BreaksGroupRule rule
    unknown_pointer : rule ≡ 208 → HasUnknownPointer → BreaksGroupRule rule

-- the record at this place breaks the rule
pub record BreaksRecordRule (zones : List ZoneData) (rule place : ℕ) : Type 0 where
  pub before : List (List ZoneData)
  pub group : List ZoneData
  pub after : List (List ZoneData)
  pub cut : groups_of zones ≡ before ++ group ∷ after
  pub place_is : place ≡ length before + 1
  pub breaks : BreaksGroupRule group rule
