-- The first byte that a search finds is at the first position of that byte.
use Rattle.std.proofs.Common.{◌≡◌, ℕ, Bool, List, Option, Some, None, length, refl, arith, get_or}
use Rattle.std.proofs.lemmas.Bool.{lt-ltb, le-ltb, false_from_ne_true}
use Rattle.std.proofs.lemmas.List.Sums.{position_or_len_is}
use Rattle.std.specs.List.{position, position_or_len}
use Rattle.memchr.specs.Find.{IsFirstByte}

pub first_byte : (p : ℕ → Bool) (xs : List ℕ) (r : Option ℕ) → IsFirstByte p xs r → r ≡ position p xs
first_byte p xs None h =
    let at : position_or_len p xs ≡ length xs = position_or_len_is p xs (length xs) 0 (omega arith) (λ k below. false_from_ne_true (p (get_or xs k 0)) (h k (omega arith) below)) (λ below. absurd (omega (arith, below))) in
    rw at (rw (le-ltb (length xs) (length xs) (omega arith)) refl)
first_byte p xs (Some k) h =
    let at : position_or_len p xs ≡ k = position_or_len_is p xs k 0 (omega (arith, h.0.high)) (λ j below. false_from_ne_true (p (get_or xs j 0)) (h.0.before j (omega arith) below)) (λ below. h.1) in
    rw at (rw (lt-ltb k (length xs) h.0.high) refl)
