-- Whether an attribute is open, as it goes along from zone to zone.
use Rattle.std.specs.Prelude.{◌≡◌, ◌↔◌, Bool, true, List}
use Rattle.edi_line.specs.ZoneData.{ZoneData}
use Rattle.edi_record.specs.Records.{IsOpen}

-- these zones leave an attribute open, or leave none
abbrev pub LeaveOpen : Bool → List ZoneData → Type 0
LeaveOpen is_open front = (is_open ≡ true) ↔ ((since : List ZoneData) × IsOpen front since)
