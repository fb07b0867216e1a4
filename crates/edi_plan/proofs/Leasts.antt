-- The least number of which something holds, looked for in order.
use Rattle.std.proofs.Common.{Option, Some, None, ℕ, ◌+◌, ◌<◌, ◌≤◌, ◌⊎◌, inl, inr, arith, ◌≡◌, subst, sym}
use Rattle.std.proofs.lemmas.Bool.{cases_order}
use Rattle.edi_plan.specs.EarlierLinks.{IsLeast, IsLeastIfAny}

module _ (P : ℕ → Type 0) (n : ℕ) (none : (k : ℕ) → k < n → ¬ (P k)) where
  pub least_here : P n → IsLeast P n
  least_here h = record { is = h; least = λ k other. go k other (cases_order n k) }
    where
      go : (k : ℕ) → P k → (n ≡ k) ⊎ ((n < k) ⊎ (k < n)) → n ≤ k
      go k other (inl e) = omega (arith, e)
      go k other (inr (inl less)) = omega arith
      go k other (inr (inr more)) = absurd (none k more other)

  pub none_here : ¬ (P n) → (k : ℕ) → k < n + 1 → ¬ (P k)
  none_here not k less h = go (cases_order n k)
    where
      go : (n ≡ k) ⊎ ((n < k) ⊎ (k < n)) → ⊥
      go (inl e) = not (subst P (sym e) h)
      go (inr (inl past)) = omega arith
      go (inr (inr before)) = none k before h

-- the least of which the one holds is the least of which the other does
pub least_as : (P Q : ℕ → Type 0) → ((k : ℕ) → P k → Q k) → ((k : ℕ) → Q k → P k) → (found : Option ℕ) → IsLeastIfAny P found → IsLeastIfAny Q found
least_as P Q f g (Some n) h = record { is = f n h.is; least = λ k q. h.least k (g k q) }
least_as P Q f g None h = λ k q. h k (g k q)
