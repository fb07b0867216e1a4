-- The bytes that the format names, and its limits.
use Rattle.std.specs.Prelude.{ℕ, ◌<◌, List, All}

-- every element is a byte
abbrev pub IsBytes : List ℕ → Type 0
IsBytes bytes = All (λ c. c < 256) bytes

-- the line feed, which ends a line
abbrev pub line_feed : ℕ
line_feed = 10

-- the carriage return, which may stand before it
abbrev pub carriage_return : ℕ
carriage_return = 13

-- a space
abbrev pub space : ℕ
space = 32

-- the last byte that is printed, `~`
abbrev pub tilde : ℕ
tilde = 126

-- `+`
abbrev pub plus : ℕ
plus = 43

-- `-`
abbrev pub minus : ℕ
minus = 45

-- `.`
abbrev pub point : ℕ
point = 46

-- `0`
abbrev pub digit_zero : ℕ
digit_zero = 48

-- `9`
abbrev pub digit_nine : ℕ
digit_nine = 57

-- `:`, which stands between a head and its value
abbrev pub colon : ℕ
colon = 58

-- `;`, which stands between the parts of a pointer and of a position
abbrev pub semicolon : ℕ
semicolon = 59

-- `A`
abbrev pub letter_a : ℕ
letter_a = 65

-- `Z`
abbrev pub letter_z : ℕ
letter_z = 90

-- how many bytes of a value a line holds as it is written
abbrev pub line_width : ℕ
line_width = 72

-- how many records a file holds
abbrev pub most_records : ℕ
most_records = 9999999
