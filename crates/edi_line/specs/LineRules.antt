-- The rules of lines.
use Rattle.std.specs.Prelude.{◌≡◌, ℕ, ◌+◌, ◌≤◌, ◌⊎◌, false, ◌&&◌, ◌||◌, not, ◌==◌, List, ◌∷◌, ◌++◌, length, Err, IsTrue, count_by}
use Rattle.edi_line.specs.Bytes.{most_records}
use Rattle.edi_line.specs.ZoneData.{ZoneData}
use Rattle.edi_line.specs.LineKinds.{code_is, is_other, is_zone, starts, bears, some_bears}
use Rattle.edi_line.specs.Spelling.{Reading, AreReadings}
use Rattle.edi_line.specs.Zones.{IsZonesIn}

-- A line breaks a rule of its own (101, 102, 103), or one of its place behind these lines.
abbrev pub BreaksHere : List Reading → Reading → ℕ → Type 0
BreaksHere before line rule =
    (line ≡ Err rule)
    -- 104: NEX with no zone or remark before it
    ⊎ (((rule ≡ 104) × IsTrue (bears (code_is "NEX") line && not (some_bears starts before)))
    -- 105: the first zone isn't BOM
    ⊎ (((rule ≡ 105) × IsTrue (bears is_zone line && (not (bears (code_is "BOM") line) && not (some_bears is_zone before))))
    -- 107: a zone after an EOM
    ⊎ (((rule ≡ 107) × IsTrue (bears is_zone line && some_bears (code_is "EOM") before))
    -- 108: a BOM after a BOM; a CSE after a CSE or an RTY
    ⊎ (((rule ≡ 108) × IsTrue ((bears (code_is "BOM") line && some_bears (code_is "BOM") before)
    || (bears (code_is "CSE") line && (some_bears (code_is "CSE") before || some_bears (code_is "RTY") before))))
    -- 109: a zone other than BOM, CSE, EOM, RTY with no RTY before it
    ⊎ (((rule ≡ 109) × IsTrue (bears is_other line && not (some_bears (code_is "RTY") before)))
    -- 110: the RTY of record 10,000,000
    ⊎ ((rule ≡ 110) × IsTrue (bears (code_is "RTY") line && (count_by (bears (code_is "RTY")) before == most_records))))))))

-- the line with this number breaks the rule
pub record BreaksAt (lines : List Reading) (rule place : ℕ) : Type 0 where
  pub before : List Reading
  pub line : Reading
  pub after : List Reading
  pub cut : lines ≡ before ++ line ∷ after
  pub place_is : place ≡ length before + 1
  pub breaks : BreaksHere before line rule

-- 106: there is no EOM, which is missed one past the last line
abbrev pub LacksEnd : List Reading → ℕ → ℕ → Type 0
LacksEnd lines rule place = (rule ≡ 106) × (place ≡ length lines + 1) × (some_bears (code_is "EOM") lines ≡ false)

-- a line breaks the rule, or EOM is missed
abbrev pub BreaksIn : List Reading → ℕ → ℕ → Type 0
BreaksIn lines rule place = BreaksAt lines rule place ⊎ LacksEnd lines rule place

-- the file breaks a rule of lines at a place
pub record BreaksLineRule (bytes : List ℕ) (rule place : ℕ) : Type 0 where
  pub readings : List Reading
  pub say : AreReadings bytes readings
  pub breaks : BreaksIn readings rule place

-- no line breaks 101 to 104, and these are the zones of the lines
pub record IsZonesOf (bytes : List ℕ) (zones : List ZoneData) : Type 0 where
  pub readings : List Reading
  pub say : AreReadings bytes readings
  pub readable : (rule place : ℕ) → rule ≤ 104 → ¬ (BreaksAt readings rule place)
  pub zones_in : IsZonesIn readings zones
