-- Square roots.
use Rattle.std.proofs.Common.{◌≡◌, ◌∙◌, ◌+◌, ◌*◌, ◌<◌, ◌≤◌, ℕ, zero, suc, Bool, ap, arith, leb, length}
use Rattle.std.specs.List.{range_with_len}
use Rattle.std.proofs.Math.Nat.{le-mul_of_pos_right, mul-le-mul_left, mul-le-mul_right}
use Rattle.std.proofs.lemmas.Bool.{lt-leb, le-leb}
use Rattle.std.proofs.lemmas.List.{length-take}
use Rattle.std.proofs.lemmas.List.FromFn.{get_or-range_with_len, length-range_with_len}
use Rattle.std.proofs.lemmas.List.Sums.{length-filter}
use Rattle.edi_objects.proofs.Runs.{in_front}
use Rattle.edi_objects.specs.Distances.{root}

-- the greater number has the greater square
square_rises : (a b : ℕ) → a ≤ b → a * a ≤ b * b
square_rises a b h = omega (arith, mul-le-mul_left {m = a} {n = b} a h, mul-le-mul_right {m = a} {n = b} b h)

-- a number is at most its square
below_square : (d n : ℕ) → d * d ≤ n → d ≤ n
below_square zero n h = omega arith
below_square (suc d) n h = omega (arith, le-mul_of_pos_right {m = suc d} (suc d) (omega arith), h)

-- the root is the number whose square is at most n, where the next one's is more
pub root_is : (n d : ℕ) → d * d ≤ n → n < (d + 1) * (d + 1) → d ≡ root n
root_is n d low high = unfold root in
    let test : ℕ → Bool = λ k. leb ((k + 1) * (k + 1)) n in
    let range = range_with_len 0 n in
    let small = below_square d n low in
    let long = length-range_with_len 0 n in
    let front = in_front test range d (omega (arith, small, long))
    (λ k z h. ap test (get_or-range_with_len 0 n k z (omega (arith, h, small)))
    ∙ le-leb ((0 + k + 1) * (0 + k + 1)) n (omega (arith, square_rises (0 + k + 1) d (omega (arith, h)), low)))
    (λ k z g h. ap test (get_or-range_with_len 0 n k z (omega (arith, h, long)))
    ∙ lt-leb ((0 + k + 1) * (0 + k + 1)) n (omega (arith, square_rises (d + 1) (0 + k + 1) (omega (arith, g)), high))) in
    omega (arith, length-take d range, long, ap length front, length-filter test range, small)
