-- Bytes from outside, as a line shows them.
use Rattle.std.specs.Prelude.{◌≡◌, ◌++◌, ◌+◌, ◌/◌, ◌%◌, ◌==◌, ℕ, false, List, [], ◌∷◌, codes, nat_lt, if◌then◌else◌}
use Rattle.std.specs.Char.{encode_utf8, is_control}
use Rattle.std.specs.List.{flat_map, list_any}
use Rattle.std.specs.Int.{is_in_range}
use Rattle.std.specs.Str.{IsUtf8, chars, is_utf8}

abbrev pub backslash : ℕ
backslash = 92

-- 0 to 9, and then a to f
abbrev pub hex_digit : ℕ → ℕ
hex_digit n = if nat_lt n 10 then n + 48 else n + 87

-- `\x` and the two digits of a byte
abbrev pub escape : ℕ → List ℕ
escape x = codes "\\x" ++ hex_digit (x / 16 % 16) ∷ hex_digit (x % 16) ∷ []

-- two backslashes for one; for a control character the escapes of its bytes; and each other character itself
abbrev pub shown_char : ℕ → List ℕ
shown_char c =
    if c == backslash then backslash ∷ backslash ∷ []
    else if is_control c then flat_map escape (encode_utf8 c)
    else encode_utf8 c

-- of bytes that are no text: two backslashes for one, each other character of ASCII but a control character itself, and
-- the rest as escapes
abbrev pub shown_byte : ℕ → List ℕ
shown_byte x =
    if x == backslash then backslash ∷ backslash ∷ []
    else if is_in_range 32 126 x then x ∷ []
    else escape x

-- text character by character, and what isn't UTF-8 byte by byte
abbrev pub shown_bytes : List ℕ → List ℕ
shown_bytes bytes = if is_utf8 bytes then flat_map shown_char (chars bytes) else flat_map shown_byte bytes

-- what a line shows is text without a control character
abbrev pub ShowNoControl : Type 0
ShowNoControl =
    (bytes : List ℕ) → IsUtf8 (shown_bytes bytes) × (list_any is_control (chars (shown_bytes bytes)) ≡ false)
