-- The lines of a list of bytes, byte by byte.
use Rattle.std.specs.Prelude.{ℕ, List, [], ◌∷◌, ◌==◌, if◌then◌else◌, map}
use Rattle.std.specs.List.{onto_first}
use Rattle.edi_line.specs.Bytes.{line_feed}
use Rattle.edi_line.specs.Lines.{content_of}

-- the only list of lines that there is for these bytes
abbrev pub lines_in : List ℕ → List (List ℕ)
lines_in [] = []
lines_in (c ∷ cs) = if c == line_feed then ((c ∷ []) ∷ lines_in cs) else onto_first c (lines_in cs)

-- the contents of all lines
abbrev pub line_contents : List ℕ → List (List ℕ)
line_contents bytes = map content_of (lines_in bytes)
