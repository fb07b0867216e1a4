-- Lists that go together, item by item, in another order.
use Rattle.std.proofs.Common.{◌≡◌, ℕ, zero, suc, ◌<◌, List, [], ◌∷◌, arith, get_or, length, refl, set, subst}
use Rattle.std.specs.Prelude.{IsPermutation}
use Rattle.std.specs.List.{AllZip, swap}
use Rattle.std.proofs.lemmas.List.Edits.{swap_is}
use Rattle.std.proofs.lemmas.List.Sorted.{IsPermutation-keeps, IsPermutation-refl, IsPermutation-swap, IsPermutation-trans}

module _ {X Y : Type 0} (R : X → Y → Type 0) where
  zip_long : (xs : List X) (ys : List Y) → AllZip R xs ys → length xs ≡ length ys
  zip_long [] [] h = refl
  zip_long (x ∷ xs) (y ∷ ys) h = let k = zip_long xs ys h.1 in omega (arith, k)
  zip_long [] (y ∷ ys) h = absurd h
  zip_long (x ∷ xs) [] h = absurd h

  zip_at : (xs : List X) (ys : List Y) (i : ℕ) (x : X) (y : Y) → AllZip R xs ys → i < length xs → R (get_or xs i x) (get_or ys i y)
  zip_at [] [] i x y h short = absurd (omega (arith, short))
  zip_at (a ∷ xs) (b ∷ ys) zero x y h short = h.0
  zip_at (a ∷ xs) (b ∷ ys) (suc i) x y h short = zip_at xs ys i x y h.1 (omega (arith, short))
  zip_at [] (b ∷ ys) i x y h short = absurd h
  zip_at (a ∷ xs) [] i x y h short = absurd h

  zip_set : (xs : List X) (ys : List Y) (i : ℕ) (x : X) (y : Y) → AllZip R xs ys → R x y → AllZip R (set xs i x) (set ys i y)
  zip_set [] [] i x y h r = tt
  zip_set (a ∷ xs) (b ∷ ys) zero x y h r = (r, h.1)
  zip_set (a ∷ xs) (b ∷ ys) (suc i) x y h r = (h.0, zip_set xs ys i x y h.1 r)
  zip_set [] (b ∷ ys) i x y h r = absurd h
  zip_set (a ∷ xs) [] i x y h r = absurd h

  -- two of each list exchanged
  zip_swap : (xs : List X) (ys : List Y) (i j : ℕ) (x : X) (y : Y) → AllZip R xs ys → i < length xs → j < length xs
      → AllZip R (swap xs i j) (swap ys i j)
  zip_swap xs ys i j x y h p q =
      let long = zip_long xs ys h in
      let p' : i < length ys = omega (arith, long, p) in
      let q' : j < length ys = omega (arith, long, q) in
      let once = zip_set xs ys i (get_or xs j x) (get_or ys j y) h (zip_at xs ys j x y h q) in
      let twice = zip_set (set xs i (get_or xs j x)) (set ys i (get_or ys j y)) j (get_or xs i x) (get_or ys i y) once (zip_at xs ys i x y h p) in
      subst (λ l. AllZip R l (swap ys i j)) (swap_is xs i j x p q)
      (subst (λ l. AllZip R (set (set xs i (get_or xs j x)) j (get_or xs i x)) l) (swap_is ys i j y p' q') twice)

  first_x : (xs : List X) → 0 < length xs → X
  first_x [] h = absurd (omega (arith, h))
  first_x (x ∷ xs) h = x

  first_y : (ys : List Y) → 0 < length ys → Y
  first_y [] h = absurd (omega (arith, h))
  first_y (y ∷ ys) h = y

  -- those that go with a list in another order, in that order
  pub zip_moved : (xs zs : List X) (ys : List Y) → IsPermutation xs zs → AllZip R xs ys
      → (moved : List Y) × IsPermutation ys moved × AllZip R zs moved
  zip_moved xs zs ys same h = IsPermutation-keeps xs (λ l. (moved : List Y) × IsPermutation ys moved × AllZip R l moved)
      (ys, IsPermutation-refl ys, h) step zs same
    where
      step : (l : List X) (i j : ℕ) → i < length l → j < length l → ((moved : List Y) × IsPermutation ys moved × AllZip R l moved)
          → (moved : List Y) × IsPermutation ys moved × AllZip R (swap l i j) moved
      step l i j p q k =
          let long = zip_long l k.0 k.2 in
          let p' : i < length k.0 = omega (arith, long, p) in
          let q' : j < length k.0 = omega (arith, long, q) in (
            swap k.0 i j,
            IsPermutation-trans ys k.0 (swap k.0 i j) k.1 (IsPermutation-swap k.0 (swap k.0 i j) i j p' q' refl),
            zip_swap l k.0 i j (first_x l (omega (arith, p))) (first_y k.0 (omega (arith, p'))) k.2 p q,
          )
