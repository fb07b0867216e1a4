-- Files that were cut in a line.
use Rattle.std.specs.Prelude.{◌≡◌, ◌⊎◌, ◌||◌, ℕ, Bool, false, List, [], ◌∷◌, codes, length, nat_eq, if◌then◌else◌}
use Rattle.std.specs.List.{ends_with}
use Rattle.edi_line.specs.Bytes.{line_feed}
use Rattle.edi_line.specs.Lines.{IsLinesOf}
use Rattle.edi_explain.specs.Hints.{hint_line, text_end}

-- the bytes end in a line feed, or in the byte with which some systems end a text
abbrev pub is_ended : List ℕ → Bool
is_ended bytes = ends_with nat_eq bytes (line_feed ∷ []) || ends_with nat_eq bytes (text_end ∷ [])

-- the line with this number, from 1, is the last of the file, which isn't ended
pub record IsCutAt (bytes : List ℕ) (at : ℕ) : Type 0 where
  pub lines : List (List ℕ)
  pub are_lines : IsLinesOf bytes lines
  pub last : at ≡ length lines
  pub unended : is_ended bytes ≡ false

-- it breaks 101 or 102, as a line does that was cut
abbrev pub ShowsCut : List ℕ → ℕ → ℕ → Type 0
ShowsCut bytes rule at = ((rule ≡ 101) ⊎ (rule ≡ 102)) × IsCutAt bytes at

-- that a file seems to be cut, if it does
abbrev pub cut_hint : List ℕ → Bool → List ℕ
cut_hint name cut = if cut then hint_line name (codes " seems to be cut: its last line has no end") else []
