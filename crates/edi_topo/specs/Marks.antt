-- Marks of members, and of the places that they have.
use Rattle.std.specs.Prelude.{◌≡◌, ◌↔◌, ℕ, ◌<◌, Bool, true, false, List, length, slice_index, slice_index_or}

-- of each of so many members or places, whether it has the property
pub record AreMarksOf (count : ℕ) (Has : ℕ → Type 0) (marks : List Bool) : Type 0 where
  pub all : length marks ≡ count
  pub each : (k : ℕ) → (slice_index_or marks k false ≡ true) ↔ Has k

-- a marked member has this place
abbrev pub IsPlaceOfMark : List ℕ → List Bool → ℕ → Type 0
IsPlaceOfMark places marks place =
    (m : ℕ) × (m < length places) × (slice_index places m ≡ place) × (slice_index_or marks m false ≡ true)
