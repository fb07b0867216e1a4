-- The names of known runs.
use Rattle.std.specs.Prelude.{ℕ, List, [], ◌∷◌, codes}

-- of a run over one sheet: the classes, the dictionary, the sheet, and the output
abbrev pub sheet_names : List (List ℕ)
sheet_names = codes "s" ∷ codes "d" ∷ codes "v" ∷ codes "o" ∷ []

-- of a comparison
abbrev pub pair_names : List (List ℕ)
pair_names = codes "s" ∷ codes "d" ∷ codes "a" ∷ codes "b" ∷ codes "o" ∷ []

-- of a pairing's check, where `p` is the pairing's file
abbrev pub check_names : List (List ℕ)
check_names = codes "s" ∷ codes "d" ∷ codes "a" ∷ codes "b" ∷ codes "p" ∷ codes "o" ∷ []
