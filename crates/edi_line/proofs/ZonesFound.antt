-- The zones of a file, as reading finds them.
use Rattle.std.specs.Prelude.{◌≡◌, ℕ, ◌≤◌, List, [], ◌∷◌, ◌++◌}
use Rattle.edi_line.specs.ZoneData.{ZoneData}
use Rattle.edi_line.specs.LineRules.{BreaksAt}
use Rattle.edi_line.specs.Spelling.{Reading}
use Rattle.edi_line.specs.inner.Zones.{Part, parts_after, readings_of, with_more}
use Rattle.edi_line.specs.inner.Zones.Part.{Blank, Continues, IsRemark, Begins}

-- the values of the NEX lines before the next line that is neither blank nor NEX
abbrev pub continuation : List Part → List ℕ
continuation [] = []
continuation (Blank ∷ parts) = continuation parts
continuation (Continues value ∷ parts) = value ++ continuation parts
continuation (IsRemark ∷ parts) = []
continuation (Begins zone ∷ parts) = []

-- an entry for each line that begins a zone: its own value, and then what continues it
abbrev pub whole_zones : List Part → List ZoneData
whole_zones [] = []
whole_zones (Begins zone ∷ parts) = with_more (continuation parts) zone ∷ whole_zones parts
whole_zones (Blank ∷ parts) = whole_zones parts
whole_zones (Continues value ∷ parts) = whole_zones parts
whole_zones (IsRemark ∷ parts) = whole_zones parts

abbrev pub zones_in : List Reading → List ZoneData
zones_in lines = whole_zones (parts_after 0 lines)

-- the zones of a file
abbrev pub zones_of : List ℕ → List ZoneData
zones_of bytes = zones_in (readings_of bytes)

-- no line breaks 101 to 104, and these are the zones that reading finds
pub record AreZonesRead (bytes : List ℕ) (zones : List ZoneData) : Type 0 where
  pub readable : (rule place : ℕ) → rule ≤ 104 → ¬ (BreaksAt (readings_of bytes) rule place)
  pub is : zones ≡ zones_of bytes
