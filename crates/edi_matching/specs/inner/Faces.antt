-- Faces that a matching leaves, on the sides of matched arcs.
use Rattle.std.specs.Prelude.{◌≡◌, ℕ, Bool, List, Option, None, MatchOption, slice_index_or}
use Rattle.edi_plan.specs.Plans.{IsPlace}
use Rattle.edi_schema.specs.declared.role.Role.{Role}
use Rattle.edi_matching.specs.Differences.{AreBeside}
use Rattle.edi_matching.specs.Matchings.{IsMatched}
use Rattle.edi_matching.specs.inner.Links.{IsFreeFor, matching_so}
use Rattle.edi_matching.specs.inner.Proposals.{ProposedMatching}

-- what the arc has by the role, and what the one that it goes to has
abbrev pub HasBeside : ProposedMatching → Role → ℕ → ℕ → ℕ → Type 0
HasBeside m role arc f g = AreBeside m.plan m.other (matching_so m m.to) role arc f g

-- these two, and no others; or there are none
abbrev pub AreBesideIfAny : ProposedMatching → Role → ℕ → Option (ℕ × ℕ) → Type 0
AreBesideIfAny m role arc found = MatchOption found ((f g : ℕ) → ¬ (HasBeside m role arc f g))
    (λ w. HasBeside m role arc w.0 w.1 × ((f g : ℕ) → HasBeside m role arc f g → (f ≡ w.0) × (g ≡ w.1)))

-- the record at the place f goes nowhere yet, and is carried onto that at the place g, which isn't marked
pub record IsLeftFor (m : ProposedMatching) (marks : List Bool) (to : List (Option ℕ)) (f g : ℕ) : Type 0 where
  pub left : slice_index_or to f None ≡ None
  pub free : IsFreeFor m marks f g

-- two that the arc and the one that it goes to have by the role, of which the one is left for the other; or there are
-- none
abbrev pub IsForcedIfAny : ProposedMatching → List Bool → List (Option ℕ) → Role → ℕ → Option (ℕ × ℕ) → Type 0
IsForcedIfAny m marks to role arc found =
    MatchOption found ((f g : ℕ) → HasBeside m role arc f g → ¬ (IsMatched to f) → ¬ (IsFreeFor m marks f g))
    (λ w. IsPlace m.plan w.0 × HasBeside m role arc w.0 w.1 × IsLeftFor m marks to w.0 w.1)
