-- The places of the first members that are marked.
use Rattle.std.specs.Prelude.{◌≡◌, ℕ, ◌<◌, Bool, true, false, List, length, slice_index, slice_index_or}

-- one of the first n members is marked and has this place
abbrev pub IsPlaceOfMarkBelow : List ℕ → List Bool → ℕ → ℕ → Type 0
IsPlaceOfMarkBelow places marks n place =
    (m : ℕ) × (m < n) × (m < length places) × (slice_index places m ≡ place)
    × (slice_index_or marks m false ≡ true)
