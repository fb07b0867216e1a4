-- Sums over the numbers below a bound.
use Rattle.std.proofs.Common.{◌≡◌, ℕ, zero, suc, ◌+◌, ◌<◌, List, [], ◌∷◌, length, get_or, refl, sym, ap, ◌∙◌, arith, sum_by}
use Rattle.std.proofs.lemmas.List.Sums.{sum_by-cons}
use Rattle.edi_topo.specs.Ranking.{sum_below}

pub sum_below-same : (n : ℕ) (f g : ℕ → ℕ) → ((i : ℕ) → i < n → f i ≡ g i) → sum_below n f ≡ sum_below n g
sum_below-same zero f g same = refl
sum_below-same (suc n) f g same = rw (same n (omega arith), sum_below-same n f g (λ i h. same i (omega arith)))

sum_below_first : (n : ℕ) (f : ℕ → ℕ) → sum_below (suc n) f ≡ f 0 + sum_below n (λ i. f (suc i))
sum_below_first zero f = refl
sum_below_first (suc n) f = omega (arith, sum_below_first n f)

-- a sum over a list, by its places
pub sum_by-below : {X : Type 0} (f : X → ℕ) (xs : List X) (d : X) → sum_by f xs ≡ sum_below (length xs) (λ i. f (get_or xs i d))
sum_by-below f [] d = refl
sum_by-below f (x ∷ xs) d = sum_by-cons f x xs ∙ (ap (λ k. f x + k) (sum_by-below f xs d) ∙ sym (sum_below_first (length xs) (λ i. f (get_or (x ∷ xs) i d))))
