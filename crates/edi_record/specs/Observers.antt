-- What else was given the zones of a file's records.
use Rattle.std.specs.Prelude.{List, [], ℕ}
use Rattle.edi_line.specs.ZoneData.{ZoneData}
use Rattle.edi_line.specs.LineRules.{IsZonesOf}
use Rattle.edi_line.specs.Zones.{groups_of}

-- it is as the zones of each record of the file make it
abbrev pub SawAll : List ℕ → (List (List ZoneData) → List ZoneData → Type 0) → Type 0
SawAll b Holds = (zones : List ZoneData) × IsZonesOf b zones × Holds (groups_of zones) []
