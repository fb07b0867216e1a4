-- The earlier record of a schema's file that rule 602 speaks of.
use Rattle.std.specs.Prelude.{◌≡◌, ℕ, ◌<◌, List, slice_get, Some}
use Rattle.edi_line.specs.ZoneData.{ZoneData}
use Rattle.edi_record.specs.declared.name.Name.{Name}
use Rattle.edi_schema.specs.SchemaOf.{IsNamed}

-- the zones of two records have one name
abbrev pub ShareName : List ZoneData → List ZoneData → Type 0
ShareName group other = (name : Name) × IsNamed group name × IsNamed other name

-- an earlier record with the name of the one at this place; places are from 0
abbrev pub SharesRowName : List (List ZoneData) → ℕ → ℕ → Type 0
SharesRowName groups place m =
    (earlier group : List ZoneData) × (m < place) × (slice_get groups m ≡ Some earlier)
    × (slice_get groups place ≡ Some group) × ShareName earlier group
