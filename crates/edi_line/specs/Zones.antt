-- The zones of lines, and the shape of a file.
use Rattle.std.specs.Prelude.{◌≡◌, ℕ, ◌+◌, Bool, true, false, ◌||◌, List, [], ◌∷◌, ◌++◌, length, if◌then◌else◌, Option, Some, Ok, filter, option_to_list, IfSome, codes}
use Rattle.std.specs.List.{flat_map, AllByRecursion}
use Rattle.std.specs.Cow.{IsOwnedSlice}
use Rattle.edi_line.specs.ZoneData.{ZoneData, has_code, first}
use Rattle.edi_line.specs.LineKinds.{code_is, is_inner, is_zone, starts, bears, some_bears}
use Rattle.edi_line.specs.Made.{AreMadeFrom}
use Rattle.edi_line.specs.Spelling.{Spelling, Reading}
use Rattle.edi_line.specs.declared.zone.Zone.{Zone}

-- ---- the zones of lines

-- the value that a line spells, if it spells one
abbrev pub value_in : Reading → List ℕ
value_in (Ok (Some s)) = s.value
value_in _ = []

-- what the NEX lines hold that come behind a line, before the next zone or remark
pub record GoesOn (behind : List Reading) (more : List ℕ) : Type 0 where
  pub stretch : List Reading
  pub rest : List Reading
  pub cut : behind ≡ stretch ++ rest
  pub through : some_bears starts stretch ≡ false
  pub stops : (line : Reading) (others : List Reading) → rest ≡ line ∷ others → bears starts line ≡ true
  pub is : more ≡ flat_map value_in stretch

-- the zone that a line with this number begins, with more behind its value
abbrev pub zone_at : ℕ → Spelling → List ℕ → ZoneData
zone_at line s more =
    record { line = line; code = s.code; nature = s.nature; format = s.format; value = s.value ++ more }

-- the zone of a line behind others and in front of others
pub record IsZoneAt (front : List Reading) (line : Reading) (behind : List Reading) (zone : ZoneData) : Type 0 where
  pub spelled : Spelling
  pub more : List ℕ
  pub says : line ≡ Ok (Some spelled)
  pub goes_on : GoesOn behind more
  pub is : zone ≡ zone_at (length front + 1) spelled more

-- a zone for each line that is neither blank nor NEX nor a remark, in the order of the lines
abbrev pub IsZonesIn : List Reading → List ZoneData → Type 0
IsZonesIn lines zones = AreMadeFrom (λ front line. bears is_zone line ≡ true) IsZoneAt [] lines zones

-- a NEX line stands behind the line with this number, and neither a zone nor a remark between the two
pub record IsContinued (lines : List Reading) (line : ℕ) : Type 0 where
  pub front : List Reading
  pub head : Reading
  pub between : List Reading
  pub next : Reading
  pub rest : List Reading
  pub cut : lines ≡ (front ++ head ∷ between) ++ next ∷ rest
  pub numbered : line ≡ length front + 1
  pub nothing_else : some_bears starts between ≡ false
  pub continues : bears (code_is "NEX") next ≡ true

-- the value is borrowed from the file, unless a NEX line continues it
abbrev pub IsBorrowedUnlessContinued : List Reading → Zone → Type 0
IsBorrowedUnlessContinued lines zone = IsOwnedSlice zone.value → IsContinued lines zone.line

-- ---- shape

-- an RTY, and zones with none of the four codes
pub record IsGroup (group : List ZoneData) : Type 0 where
  pub first : ZoneData
  pub rest : List ZoneData
  pub joined : group ≡ first ∷ rest
  pub leads : first.code ≡ codes "RTY"
  pub others : AllByRecursion (λ z. is_inner z.code ≡ true) rest

-- BOM, then CSE or nothing, then groups, then EOM
pub record IsFileOf (zones : List ZoneData) (charset : Option ZoneData) (groups : List (List ZoneData)) : Type 0 where
  pub head : ZoneData
  pub tail : ZoneData
  pub joined : zones ≡ head ∷ (option_to_list charset ++ (flat_map (λ g. g) groups ++ tail ∷ []))
  pub head_is : head.code ≡ codes "BOM"
  pub charset_is : IfSome charset (λ z. z.code ≡ codes "CSE")
  pub groups_are : AllByRecursion IsGroup groups
  pub tail_is : tail.code ≡ codes "EOM"

-- the zones have the shape of a file
abbrev pub HasShape : List ZoneData → Type 0
HasShape zones = (charset : Option ZoneData) × (groups : List (List ZoneData)) × IsFileOf zones charset groups

-- a zone that begins a record
abbrev pub begins_group : ZoneData → Bool
begins_group z = has_code (codes "RTY") z

-- a zone that the record before it ends at
abbrev pub ends_group : ZoneData → Bool
ends_group z = has_code (codes "RTY") z || has_code (codes "EOM") z

-- the zones before the next record or the end
abbrev pub before_end : List ZoneData → List ZoneData
before_end [] = []
before_end (z ∷ zs) = if ends_group z then [] else z ∷ before_end zs

-- the zones of each record
abbrev pub groups_of : List ZoneData → List (List ZoneData)
groups_of [] = []
groups_of (z ∷ zs) = if begins_group z then (z ∷ before_end zs) ∷ groups_of zs else groups_of zs

-- the zone of the character set, if there is one
abbrev pub charset_of : List ZoneData → Option ZoneData
charset_of zones = first (filter (has_code (codes "CSE")) zones)
