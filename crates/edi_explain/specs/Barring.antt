-- The earlier lines that rules of lines speak of.
use Rattle.std.specs.Prelude.{◌≡◌, ◌-◌, ◌<◌, ◌≤◌, ◌==◌, ◌&&◌, ◌||◌, ℕ, Bool, true, false, List, Some, None, Ok, Err, bytes_eq, codes, slice_get, if◌then◌else◌}
use Rattle.edi_line.specs.Spelling.{AreReadings, Reading}

-- the line spells a zone of this code
abbrev pub has_zone : List ℕ → Reading → Bool
has_zone code (Ok (Some s)) = bytes_eq s.code code
has_zone code (Ok None) = false
has_zone code (Err rule) = false

-- the one line may not stand before the other: by 107 an EOM before any; by 108 a BOM before a BOM, and a CSE or an RTY
-- before a CSE
abbrev pub bars : ℕ → Reading → Reading → Bool
bars rule earlier line =
    if rule == 107 then has_zone (codes "EOM") earlier
    else if rule == 108
    then (if has_zone (codes "BOM") line then has_zone (codes "BOM") earlier else has_zone (codes "CSE") line
    && (has_zone (codes "CSE") earlier || has_zone (codes "RTY") earlier))
    else false

-- the line with the number at may not stand behind the one with the number m; numbers are from 1
pub record IsBarredBy (bytes : List ℕ) (rule at m : ℕ) : Type 0 where
  pub readings : List Reading
  pub say : AreReadings bytes readings
  pub earlier : Reading
  pub line : Reading
  pub from_one : 1 ≤ m
  pub before : m < at
  pub there : slice_get readings (m - 1) ≡ Some earlier
  pub here : slice_get readings (at - 1) ≡ Some line
  pub barred : bars rule earlier line ≡ true
