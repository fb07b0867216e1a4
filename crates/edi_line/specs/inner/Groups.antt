-- How the zones of a file are handed on, one by one.
use Rattle.std.specs.Prelude.{◌≡◌, ℕ, List, [], ◌∷◌, ◌++◌, Option, Some, None, codes, option_map, if◌then◌else◌}
use Rattle.edi_line.specs.ZoneData.{ZoneData, has_code}
use Rattle.edi_line.specs.Groups.{IsOneRecord}
use Rattle.edi_line.specs.Zones.{begins_group, ends_group, charset_of}
use Rattle.edi_line.specs.declared.groups.Handing.{Handing}
use Rattle.edi_line.specs.declared.groups.Place.{Place}
use Rattle.edi_line.specs.declared.groups.Place.TheVariants.{Front, Inside, Behind}

-- the value of the first CSE among these zones
abbrev pub charset_in : List ZoneData → Option (List ℕ)
charset_in zones = option_map (λ z. z.value) (charset_of zones)

-- what zones that were handed on make: where they end, the character set in front of the records, the records that
-- are whole, and the zones of the one that is coming
pub record HandedZones : Type 0 where
  pub place : Place
  pub charset : Option (List ℕ)
  pub groups : List (List ZoneData)
  pub group : List ZoneData

abbrev pub handed_at_first : HandedZones
handed_at_first = record { place = Front; charset = None; groups = []; group = [] }

-- the record that is coming, if one is
abbrev pub coming : Place → List ZoneData → List (List ZoneData)
coming Front group = []
coming Inside group = group ∷ []
coming Behind group = []

abbrev pub first_set : Option (List ℕ) → ZoneData → Option (List ℕ)
first_set (Some text) z = Some text
first_set None z = if has_code (codes "CSE") z then Some z.value else None

-- the record that is coming is whole
abbrev pub with_end : HandedZones → HandedZones
with_end s = record { place = Behind; charset = s.charset; groups = s.groups ++ coming s.place s.group; group = [] }

-- the zone begins the next record
abbrev pub with_begin : ZoneData → HandedZones → HandedZones
with_begin z s =
    record { place = Inside; charset = s.charset; groups = s.groups ++ coming s.place s.group; group = z ∷ [] }

-- the zone neither begins a record nor is the end
abbrev pub with_inner : ZoneData → HandedZones → HandedZones
with_inner z s = by_place s.place
  where
    by_place : Place → HandedZones
    by_place Front = record { place = Front; charset = first_set s.charset z; groups = s.groups; group = s.group }
    by_place Inside = record { place = Inside; charset = s.charset; groups = s.groups; group = s.group ++ z ∷ [] }
    by_place Behind = record { place = Behind; charset = s.charset; groups = s.groups; group = s.group }

abbrev pub with_zone : ZoneData → HandedZones → HandedZones
with_zone z s = if begins_group z then with_begin z s else (if ends_group z then with_end s else with_inner z s)

abbrev pub with_zones : HandedZones → List ZoneData → HandedZones
with_zones s [] = s
with_zones s (z ∷ zs) = with_zones (with_zone z s) zs

-- the record that is coming began with its RTY; where none is coming, there are no zones of it
abbrev pub IsComing : Place → List ZoneData → Type 0
IsComing Front group = group ≡ []
IsComing Inside group = IsOneRecord group
IsComing Behind group = group ≡ []

pub record IsStateOf (s : HandedZones) (h : Handing) : Type 0 where
  pub place : h.place ≡ s.place
  pub charset : h.charset ≡ s.charset
  pub coming_is : IsComing s.place s.group

-- what takes the zones is as these records and those that were handed on make it
abbrev pub KeepsHanded : (List (List ZoneData) → List ZoneData → Type 0) → List (List ZoneData) → HandedZones → Type 0
KeepsHanded Holds groups s = Holds (groups ++ s.groups) s.group
