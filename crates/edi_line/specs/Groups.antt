-- The zones of a file, handed on record by record.
use Rattle.std.specs.Prelude.{◌≡◌, ℕ, ◌≤◌, true, false, List, [], ◌∷◌, ◌++◌, length, Option, option_map}
use Rattle.std.specs.List.{list_any}
use Rattle.edi_line.specs.Bytes.{most_records}
use Rattle.edi_line.specs.ZoneData.{ZoneData}
use Rattle.edi_line.specs.LineRules.{IsZonesOf}
use Rattle.edi_line.specs.Zones.{HasShape, begins_group, ends_group, charset_of, groups_of}

-- the zones of one record: its RTY, and others of which none begins the next or is the end
pub record IsOneRecord (group : List ZoneData) : Type 0 where
  pub head : ZoneData
  pub rest : List ZoneData
  pub joined : group ≡ head ∷ rest
  pub leads : begins_group head ≡ true
  pub whole : list_any ends_group rest ≡ false

-- the zones of each record of the file were handed on, in the order of the records, and this is its character set
pub record IsHandedOut (bytes : List ℕ) (charset : Option (List ℕ))
    (Before After : List (List ZoneData) → List ZoneData → Type 0) : Type 0 where
  pub zones : List ZoneData
  pub of_file : IsZonesOf bytes zones
  pub shape : HasShape zones
  pub few : length (groups_of zones) ≤ most_records
  pub charset_is : charset ≡ option_map (λ z. z.value) (charset_of zones)
  pub handed : (groups : List (List ZoneData)) → Before groups [] → After (groups ++ groups_of zones) []
