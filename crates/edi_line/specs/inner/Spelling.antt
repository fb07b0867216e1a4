-- What a content says, as a chain of tests: what reading finds.
use Rattle.std.specs.Prelude.{ℕ, ◌+◌, ◌-◌, ◌*◌, Bool, ◌&&◌, not, nat_lt, nat_le, List, [], ◌∷◌, length, take, drop, slice_index, ◌==◌, if◌then◌else◌, Option, Some, None, Result, Ok, Err}
use Rattle.std.specs.List.{list_all}
use Rattle.edi_line.specs.Bytes.{space, digit_zero, digit_nine, colon}
use Rattle.edi_line.specs.Spelling.{Spelling, Reading, is_code_byte, is_printable}
use Rattle.edi_line.specs.declared.spelling.Spelled.{Spelled}

abbrev pub is_digit : ℕ → Bool
is_digit c = nat_le digit_zero c && nat_le c digit_nine

abbrev pub is_space : ℕ → Bool
is_space c = c == space

-- the number that the two digits of a head state
abbrev pub stated_length : List ℕ → ℕ
stated_length content = (slice_index content 5 - digit_zero) * 10 + (slice_index content 6 - digit_zero)

-- the three bytes of the code
abbrev pub code_of : List ℕ → List ℕ
code_of content = slice_index content 0 ∷ slice_index content 1 ∷ slice_index content 2 ∷ []

-- eight bytes in the form of a head
unfoldable pub has_head : List ℕ → Bool
has_head content = nat_le 8 (length content)
    && ((slice_index content 7 == colon)
    && (list_all is_code_byte (code_of content)
    && (is_printable (slice_index content 3) && (is_printable (slice_index content 4)
    && (is_digit (slice_index content 5) && is_digit (slice_index content 6))))))

abbrev pub spelling_of : List ℕ → Spelling
spelling_of content = record {
  code = code_of content;
  nature = slice_index content 3;
  format = slice_index content 4;
  value = take (stated_length content) (drop 8 content);
}

unfoldable pub reading_of : List ℕ → Reading
reading_of content =
    if list_all is_space content then Ok None
    else (if not (has_head content) then Err 101
    else (if nat_lt (length (drop 8 content)) (stated_length content) then Err 102
    else (if list_all is_space (drop (stated_length content) (drop 8 content)) then Ok (Some (spelling_of content))
    else Err 103)))

-- a reading without where its value lies in memory
abbrev pub spelling_shown : Spelled → Spelling
spelling_shown s = record { code = s.code; nature = s.nature; format = s.format; value = s.value.now }

abbrev pub reading_shown : Result (Option Spelled) ℕ → Reading
reading_shown (Ok None) = Ok None
reading_shown (Ok (Some s)) = Ok (Some (spelling_shown s))
reading_shown (Err rule) = Err rule
