-- Zones of quality, line by line.
use Rattle.std.specs.Prelude.{◌||◌, ℕ, Bool, List, codes, nat_eq}
use Rattle.std.specs.List.{starts_with}
use Rattle.edi_line.specs.Spelling.{Reading}
use Rattle.edi_explain.specs.Barring.{has_zone}

-- a content begins with one of the two codes
abbrev pub is_quality_content : List ℕ → Bool
is_quality_content content = starts_with nat_eq content (codes "QAC") || starts_with nat_eq content (codes "QAP")

-- a line spells a zone of one of them
abbrev pub is_quality_line : Reading → Bool
is_quality_line line = has_zone (codes "QAC") line || has_zone (codes "QAP") line
