-- What is broken in front of a rule and a place.
use Rattle.std.specs.Prelude.{◌≡◌, ◌⊎◌, ◌<◌, ℕ}

-- broken at a lesser place, or at this one with a lesser rule
abbrev pub BreaksBefore : (ℕ → ℕ → Type 0) → ℕ → ℕ → ℕ → ℕ → Type 0
BreaksBefore broken rule at r p = broken r p × ((p < at) ⊎ ((p ≡ at) × (r < rule)))
