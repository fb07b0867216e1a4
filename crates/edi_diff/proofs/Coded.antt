-- Codes of records, and what they tell.
use Rattle.std.proofs.Common.{◌≡◌, ℕ, ◌+◌, ◌-◌, ◌*◌, ◌%◌, ◌^◌, ◌<◌, min, Bool, true, false, Result, Ok, Err, OkIff, arith, pos, unsigned_abs, ne_eqb, eq-eqb}
use Rattle.std.specs.Int.{FitsUnsignedBits, from_bool}
use Rattle.std.specs.Result.{result_unwrap_or}
use Rattle.edi_diff.specs.inner.Codes.{code_at, is_of_second, place_by}

pub code_is : (place : ℕ) (s : Bool) (a b r : ℕ) → a ≡ min (place * 2) (2 ^ 64 - 1) → b ≡ from_bool s → r ≡ min (a + b) (2 ^ 64 - 1) → r ≡ code_at s place
code_is place true a b r e f g = omega (arith, e, f, g)
code_is place false a b r e f g = omega (arith, e, f, g)

pub sheet_is : (place : ℕ) (s : Bool) → place < 2 ^ 63 → is_of_second (code_at s place) ≡ s
sheet_is place true h = eq-eqb (code_at true place % 2) 1 (omega (arith, h))
sheet_is place false h = ne_eqb (code_at false place % 2) 1 (λ e. omega (arith, h, e))

pub place_is : (place : ℕ) (s : Bool) → place < 2 ^ 32 → place_by (code_at s place) ≡ place
place_is place true h = omega (arith, h)
place_is place false h = omega (arith, h)

pub place_known : {E : Type 0} (n : ℕ) (r : Result ℕ E) → OkIff r (FitsUnsignedBits 32 (pos n)) (unsigned_abs (pos n)) → result_unwrap_or r (2 ^ 32 - 1) ≡ min n (2 ^ 32 - 1)
place_known n (Ok x) h = omega (arith, h.0, h.1)
place_known n (Err e) h = omega (arith, h)
