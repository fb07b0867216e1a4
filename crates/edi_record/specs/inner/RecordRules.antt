-- The rules of records as tests: what reading finds.
use Rattle.std.specs.Prelude.{◌≡◌, ℕ, ◌+◌, Bool, true, false, not, ◌&&◌, ◌||◌, ◌==◌, nat_le, nat_lt, nat_eq, is_none, is_some, List, [], ◌∷◌, ◌++◌, length, if◌then◌else◌, Option, Some, None, option_and_then, codes, bytes_eq}
use Rattle.std.specs.List.{list_any, before_first}
use Rattle.edi_line.specs.ZoneData.{ZoneData, has_code, first}
use Rattle.edi_line.specs.Zones.{groups_of}
use Rattle.edi_line.specs.Refusal.{Test, test, BreaksTest}
use Rattle.edi_record.specs.inner.Texts.{pointer, point_in, count}
use Rattle.edi_record.specs.Records.{values, has_points, is_link, opens, closes, points_at}
use Rattle.edi_record.specs.inner.Records.{Placed, zones_placed, is_extra}
use Rattle.edi_record.specs.declared.record.Kind.{Kind}
use Rattle.edi_record.specs.declared.record.Kind.TheVariants.{Pno, Par, Pfe, Fea, Lnk}
use Rattle.edi_record.specs.RecordRules.{just_one, has_no_identifier}

abbrev pub kind_named : List ℕ → Option Kind
kind_named code =
    if bytes_eq code (codes "PNO") then Some Pno
    else (if bytes_eq code (codes "PAR") then Some Par
    else (if bytes_eq code (codes "PFE") then Some Pfe
    else (if bytes_eq code (codes "FEA") then Some Fea
    else (if bytes_eq code (codes "LNK") then Some Lnk
    else None))))

-- the kind that the type of a record names
abbrev pub kind_in : List ZoneData → Option Kind
kind_in group = option_and_then kind_named (first (values (codes "RTY") group))

-- the kind is known and passes the test
abbrev pub in_kind : (Kind → Bool) → List ZoneData → Bool
in_kind test group = kind_passes (kind_in group)
  where
    kind_passes : Option Kind → Bool
    kind_passes (Some kind) = test kind
    kind_passes None = false

abbrev pub is_node : Kind → Bool
is_node Pno = true
is_node _ = false

abbrev pub is_arc_kind : Kind → Bool
is_arc_kind Par = true
is_arc_kind _ = false

-- 201: the type isn't one of the five
abbrev pub has_no_kind : List ZoneData → Bool
has_no_kind group = is_none (kind_in group)

-- 203: not exactly one SCP that is a pointer
abbrev pub has_no_class : List ZoneData → Bool
has_no_class group = not (just_one (λ text. is_some (pointer text)) (values (codes "SCP") group))

-- some of the texts is no pointer
abbrev pub some_no_pointer : List (List ℕ) → Bool
some_no_pointer texts = list_any (λ text. is_none (pointer text)) texts

-- how many zones with a code come before the next that ends the stretch
abbrev pub count_until : (ZoneData → Bool) → List ℕ → List ZoneData → ℕ
count_until ends code [] = 0
count_until ends code (z ∷ zs) =
    if ends z then 0 else (if has_code code z then 1 + count_until ends code zs else count_until ends code zs)

-- behind a zone that opens a stretch, the code comes twice or more in it
abbrev pub repeats_code : (ZoneData → Bool) → (ZoneData → Bool) → List ℕ → List ZoneData → Bool
repeats_code opens_it ends_it code [] = false
repeats_code opens_it ends_it code (z ∷ zs) =
    (opens_it z && nat_le 2 (count_until ends_it code zs)) || repeats_code opens_it ends_it code zs

-- 204: an ATP is no pointer; an ATV with no open attribute; a second TEX in one open attribute
abbrev pub has_bad_attribute : List ZoneData → Bool
has_bad_attribute group =
    some_no_pointer (values (codes "ATP") group)
    || (list_any (λ p. closes p.zone && not p.open_before) (zones_placed false group)
    || repeats_code opens (λ z. opens z || closes z) (codes "TEX") group)

-- none, or one text that counts so many
abbrev pub counts_right : List (List ℕ) → ℕ → Bool
counts_right [] n = true
counts_right (text ∷ []) n = counts (count text)
  where
    counts : Option ℕ → Bool
    counts (Some m) = m == n
    counts None = false
counts_right (text ∷ other ∷ texts) n = false

-- the count is repeated, not digits, or not that of the zones counted
abbrev pub counts_wrong : List ℕ → List ℕ → List ZoneData → Bool
counts_wrong counting counted group = not (counts_right (values counting group) (length (values counted group)))

-- 205: a wrong ATC; a wrong PTC of an arc; a wrong FTC of a link
abbrev pub has_wrong_count : List ZoneData → Bool
has_wrong_count group =
    counts_wrong (codes "ATC") (codes "ATP") group
    || ((in_kind is_arc_kind group && counts_wrong (codes "PTC") (codes "COR") group)
    || (in_kind is_link group && counts_wrong (codes "FTC") (codes "FTP") group))

-- 206: a COR of a node or an arc is no place; a node without exactly one COR; an arc with fewer than two
abbrev pub has_bad_point : List ZoneData → Bool
has_bad_point group =
    (in_kind has_points group && list_any (λ text. is_none (point_in text)) (values (codes "COR") group))
    || ((in_kind is_node group && not (nat_eq (length (values (codes "COR") group)) 1))
    || (in_kind is_arc_kind group && nat_lt (length (values (codes "COR") group)) 2))

-- 207: of a link, an FTP is no pointer; fewer than two ends; an SNS before any FTP, or twice for one
abbrev pub has_bad_end : List ZoneData → Bool
has_bad_end group =
    in_kind is_link group
    && (some_no_pointer (values (codes "FTP") group)
    || (nat_lt (length (values (codes "FTP") group)) 2
    || (list_any (has_code (codes "SNS")) (before_first points_at group)
    || repeats_code points_at points_at (codes "SNS") group)))

abbrev pub is_unknown_pointer : Kind → Placed → Bool
is_unknown_pointer kind p = is_extra kind p && ((p.zone.format == 80) && nat_lt 0 (length p.zone.value))

-- 208: an extra with format `P` and a value that isn't empty
abbrev pub has_unknown_pointer : List ZoneData → Bool
has_unknown_pointer group = in_kind (λ kind. list_any (is_unknown_pointer kind) (zones_placed false group)) group

abbrev pub record_tests : List ZoneData → List Test
record_tests group =
    test 201 (has_no_kind group)
    ∷ test 202 (has_no_identifier group)
    ∷ test 203 (has_no_class group)
    ∷ test 204 (has_bad_attribute group)
    ∷ test 205 (has_wrong_count group)
    ∷ test 206 (has_bad_point group)
    ∷ test 207 (has_bad_end group)
    ∷ test 208 (has_unknown_pointer group)
    ∷ []

-- the record of this number fails the test of the rule
pub record FailsTest (zones : List ZoneData) (rule place : ℕ) : Type 0 where
  pub before : List (List ZoneData)
  pub group : List ZoneData
  pub after : List (List ZoneData)
  pub cut : groups_of zones ≡ before ++ group ∷ after
  pub place_is : place ≡ length before + 1
  pub breaks : BreaksTest (record_tests group) rule
