-- All rules that are broken, each with its place.
use Rattle.std.specs.Prelude.{◌≡◌, ℕ, ◌<◌, ◌⊎◌, List, All, Any, AllPairs}
use Rattle.edi_line.specs.declared.broken.BrokenRule.{BrokenRule}

-- the one stands before the other: at a lesser place, or at the same with a lesser rule
abbrev pub StandsBefore : BrokenRule → BrokenRule → Type 0
StandsBefore a b = (a.at < b.at) ⊎ ((a.at ≡ b.at) × (a.rule < b.rule))

-- the list has each rule that is broken with its place, and no other, each once, by places and at one place by rules
pub record AreAllBroken (broken : ℕ → ℕ → Type 0) (list : List BrokenRule) : Type 0 where
  pub each : All (λ it. broken it.rule it.at) list
  pub all : (rule at : ℕ) → broken rule at → Any (λ it. (it.rule ≡ rule) × (it.at ≡ at)) list
  pub in_order : AllPairs StandsBefore list
