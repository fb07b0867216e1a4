-- A list of three bytes.
use Rattle.std.proofs.Common.{◌≡◌, refl, ℕ, List, [], ◌∷◌, ◌++◌, length, get_or, arith}

pub three_bytes : (xs ys : List ℕ) → length xs ≡ 3 → xs ++ ys ≡ get_or xs 0 0 ∷ get_or xs 1 0 ∷ get_or xs 2 0 ∷ ys
three_bytes (a ∷ b ∷ c ∷ []) ys e = refl
three_bytes [] ys e = absurd (omega arith)
three_bytes (a ∷ []) ys e = absurd (omega arith)
three_bytes (a ∷ b ∷ []) ys e = absurd (omega arith)
three_bytes (a ∷ b ∷ c ∷ d ∷ xs) ys e = absurd (omega arith)
