-- The bytes that stand for formats.
use Rattle.std.specs.Prelude.{ℕ}

-- the format of a number
abbrev pub letter_n : ℕ
letter_n = 78

-- the format of a real number
abbrev pub letter_r : ℕ
letter_r = 82

-- the format of a pointer
abbrev pub letter_p : ℕ
letter_p = 80
