-- Records looked for among those before another.
use Rattle.std.specs.Prelude.{◌≡◌, ◌<◌, ℕ, List, Some, codes, slice_get}
use Rattle.edi_line.specs.ZoneData.{ZoneData}
use Rattle.edi_record.specs.Records.{first, values}
use Rattle.edi_record.specs.declared.name.Name.{Name}
use Rattle.edi_schema.specs.SchemaOf.{IsNamed}
use Rattle.edi_explain.specs.declared.rows.RowName.{RowName}
use Rattle.edi_explain.specs.declared.rows.RowTest.{RowTest}
use Rattle.edi_explain.specs.declared.rows.RowTest.TheVariants.{Named, Linked}

-- the name that two texts are
abbrev pub row_name : RowName → Name
row_name found = record { rty = found.rty.now; rid = found.rid.now }

-- the zones of a link with an end
abbrev pub IsLinked : List ZoneData → Type 0
IsLinked group = (text : List ℕ) × (first (values (codes "RTY") group) ≡ Some (codes "LNK"))
    × (first (values (codes "FTP") group) ≡ Some text)

-- the zones of a record are as is looked for: it has the name, or is a link with an end
abbrev pub PassesRow : RowTest → List ZoneData → Type 0
PassesRow (Named name) group = IsNamed group (row_name name)
PassesRow Linked group = IsLinked group

-- a record before the one at this place, of whose zones this holds; places are from 0
abbrev pub IsEarlierRow : (List ZoneData → Type 0) → List (List ZoneData) → ℕ → ℕ → Type 0
IsEarlierRow P groups place m =
    (earlier group : List ZoneData) × (m < place) × (slice_get groups m ≡ Some earlier)
    × (slice_get groups place ≡ Some group) × P earlier
