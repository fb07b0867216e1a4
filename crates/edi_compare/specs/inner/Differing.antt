-- The first line in which two files differ, byte by byte.
use Rattle.std.specs.Prelude.{ℕ, ◌+◌, ◌==◌, List, [], ◌∷◌, Option, Some, None, if◌then◌else◌}
use Rattle.edi_line.specs.Bytes.{line_feed}

-- the number of the first line in which they differ, where the first of their lines has this number
abbrev pub differ_from : ℕ → List ℕ → List ℕ → Option ℕ
differ_from line [] [] = None
differ_from line [] (y ∷ ys) = Some line
differ_from line (x ∷ xs) [] = Some line
differ_from line (x ∷ xs) (y ∷ ys) =
    if x == y then differ_from (if x == line_feed then line + 1 else line) xs ys else Some line
