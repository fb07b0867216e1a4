-- The end of a list of pieces.
use Rattle.std.specs.Prelude.{ℕ, Bool, false, List, [], ◌∷◌, ◌==◌, length}

-- whether there is a last piece, and it is empty
abbrev pub ends_empty : List (List ℕ) → Bool
ends_empty [] = false
ends_empty (piece ∷ []) = length piece == 0
ends_empty (piece ∷ next ∷ pieces) = ends_empty (next ∷ pieces)
