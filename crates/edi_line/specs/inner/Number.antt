-- The number that a text spells, as a function of its parts: what reading finds.
use Rattle.std.specs.List.{before_first, after_first, list_all}
use Rattle.std.specs.Str.{all_ascii_digits}
use Rattle.std.specs.Prelude.{Bool, ◌&&◌, ◌||◌, nat_lt, Option, Some, None, take, drop, ℕ, ◌+◌, ◌*◌, ◌-◌, ◌^◌, List, [], ◌∷◌, length, ℤ, ◌==◌, if◌then◌else◌}
use Rattle.std.specs.Str.Parse.{digits_value}
use Rattle.edi_line.specs.Bytes.{plus, minus, point, digit_zero}
use Rattle.edi_line.specs.Number.{UNIT, signed_by}

-- a `+` or a `-`
abbrev pub is_sign_byte : ℕ → Bool
is_sign_byte c = (c == plus) || (c == minus)

-- the sign in front, if any
abbrev pub sign_bytes : List ℕ → List ℕ
sign_bytes [] = []
sign_bytes (c ∷ cs) = if is_sign_byte c then (c ∷ []) else []

-- what follows the sign
abbrev pub body_of : List ℕ → List ℕ
body_of [] = []
body_of (c ∷ cs) = if is_sign_byte c then cs else (c ∷ cs)

abbrev pub whole_of : List ℕ → List ℕ
whole_of body = before_first (λ c. c == point) body

abbrev pub fraction_of : List ℕ → List ℕ
fraction_of body = after_first (λ c. c == point) body

abbrev pub is_zero : ℕ → Bool
is_zero c = c == digit_zero

-- ---- the number

-- zeros, and then at most nine digits
unfoldable pub whole_number : List ℕ → Option ℕ
whole_number digits =
    if list_all is_zero (take (length digits - 9) digits) && all_ascii_digits (drop (length digits - 9) digits)
    then Some (digits_value 10 (drop (length digits - 9) digits)) else None

-- at most six digits, and then zeros
unfoldable pub fraction_number : List ℕ → Option ℕ
fraction_number digits =
    if list_all is_zero (drop 6 digits) && all_ascii_digits (take 6 digits)
    then Some (digits_value 10 (take 6 digits) * 10 ^ (6 - length (take 6 digits))) else None

abbrev pub millionths_by : List ℕ → Option ℕ → Option ℕ → Option ℤ
millionths_by sign (Some units) (Some millionths) = Some (signed_by sign (units * UNIT + millionths))
millionths_by sign (Some units) None = None
millionths_by sign None millionths = None

-- the number that a text spells, if it spells one: the same as `IsNumberText`, which `number_is` proves
unfoldable pub number : List ℕ → Option ℤ
number text =
    if nat_lt 0 (length (whole_of (body_of text)) + length (fraction_of (body_of text)))
    then millionths_by (sign_bytes text) (whole_number (whole_of (body_of text)))
    (fraction_number (fraction_of (body_of text)))
    else None
