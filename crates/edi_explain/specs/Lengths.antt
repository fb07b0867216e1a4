-- Lengths that count characters.
use Rattle.std.specs.Prelude.{◌≡◌, ℕ, ◌-◌, ◌<◌, ◌≤◌, Bool, not, ◌&&◌, nat_le, List, [], ◌++◌, length, replicate, Some, codes, count_by, slice_get, if◌then◌else◌}
use Rattle.edi_line.specs.Bytes.{space}
use Rattle.edi_line.specs.Lines.{IsLinesOf, content_of}
use Rattle.edi_line.specs.Spelling.{IsHead, Spelling}
use Rattle.edi_explain.specs.Hints.{hint_line}

-- the first and the last byte in which no character of UTF-8 begins, 0x80 and 0xBF
abbrev pub first_continuation : ℕ
first_continuation = 128

abbrev pub last_continuation : ℕ
last_continuation = 191

-- a byte in which no character of UTF-8 begins
abbrev pub is_continuation : ℕ → Bool
is_continuation c = nat_le first_continuation c && nat_le c last_continuation

-- how many characters bytes are as UTF-8
abbrev pub character_count : List ℕ → ℕ
character_count bytes = count_by (λ c. not (is_continuation c)) bytes

-- a head, a value of which the stated length counts the characters, and not the bytes, and spaces
pub record IsMiscounted (content : List ℕ) : Type 0 where
  pub head : List ℕ
  pub zone : Spelling
  pub spaces : ℕ
  pub in_form : IsHead head zone (character_count zone.value)
  pub spelled : content ≡ head ++ (zone.value ++ replicate spaces space)
  pub more : character_count zone.value < length zone.value

-- the length that the line with this number states counts the characters of its value, and not the bytes; numbers are
-- from 1
pub record CountsCharacters (bytes : List ℕ) (at : ℕ) : Type 0 where
  pub lines : List (List ℕ)
  pub are_lines : IsLinesOf bytes lines
  pub line : List ℕ
  pub from_one : 1 ≤ at
  pub there : slice_get lines (at - 1) ≡ Some line
  pub miscounted : IsMiscounted (content_of line)

-- that the lengths of a file seem to count characters, if one of them does
abbrev pub length_hint : List ℕ → Bool → List ℕ
length_hint name counts =
    if counts
    then hint_line name
    (codes " seems to have been turned into UTF-8: its lengths count characters, so take the file as it was delivered")
    else []
