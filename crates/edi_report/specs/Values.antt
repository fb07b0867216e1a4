-- Values that are given for places.
use Rattle.std.specs.Prelude.{◌≡◌, ◌<◌, ℕ}

-- what is given for each of the first places is the value of f
abbrev pub AreValuesOf : {T : Type 0} → (ℕ → T → Type 0) → (ℕ → T) → ℕ → Type 0
AreValuesOf {T} gives f count = (place : ℕ) → place < count → (x : T) → gives place x → x ≡ f place
