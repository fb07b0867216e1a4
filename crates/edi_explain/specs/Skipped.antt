-- What the reader leaves out of a sheet.
use Rattle.std.specs.Prelude.{◌≡◌, ◌++◌, ◌||◌, ℕ, Bool, List, [], ◌∷◌, codes, count_by, decimal, flat_map}
use Rattle.edi_line.specs.Bytes.{line_feed}
use Rattle.edi_line.specs.ZoneData.{ZoneData, has_code}
use Rattle.edi_line.specs.LineKinds.{bears, code_is}
use Rattle.edi_line.specs.LineRules.{IsZonesOf}
use Rattle.edi_line.specs.Spelling.{AreReadings, Reading}
use Rattle.edi_line.specs.Zones.{groups_of}

-- a zone of quality, QAC or QAP
abbrev pub is_quality : ZoneData → Bool
is_quality z = has_code (codes "QAC") z || has_code (codes "QAP") z

-- how many zones of these records are of quality
abbrev pub quality_count : List (List ZoneData) → ℕ
quality_count groups = count_by is_quality (flat_map (λ g. g) groups)

-- so many zones of quality stand in the records of the file
abbrev pub HasQuality : List ℕ → ℕ → Type 0
HasQuality b count = (zones : List ZoneData) × IsZonesOf b zones × (count ≡ quality_count (groups_of zones))

-- how many of these lines are remarks
abbrev pub remarks_in : List Reading → ℕ
remarks_in lines = count_by (bears (code_is "REM")) lines

-- so many lines of the file are remarks
abbrev pub HasRemarks : List ℕ → ℕ → Type 0
HasRemarks b count = (readings : List Reading) × AreReadings b readings × (count ≡ remarks_in readings)

-- how many of something are left out
abbrev pub left_out_line : List ℕ → ℕ → List ℕ
left_out_line words count = words ++ codes " left out: " ++ decimal count ++ line_feed ∷ []

-- The lines on what an accepted sheet has beside its plan.
abbrev pub DescribesSkipped : List ℕ → List ℕ → Type 0
DescribesSkipped b lines = (zones remarks : ℕ) × HasQuality b zones × HasRemarks b remarks
    × (lines ≡ left_out_line (codes "quality zones") zones ++ left_out_line (codes "remarks") remarks)
