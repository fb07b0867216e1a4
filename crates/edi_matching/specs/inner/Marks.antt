-- Places that are marked when a record goes there.
use Rattle.std.specs.Prelude.{◌≡◌, ℕ, ◌<◌, ◌≤◌, ◌⊎◌, Bool, true, false, List, Option, None, Some, length, slice_index_or, slice_set, MatchBool}
use Rattle.edi_matching.specs.Matchings.{GoesTo}

-- the records go to places below n, no two to one
pub record GoApart (to : List (Option ℕ)) (n : ℕ) : Type 0 where
  pub within : (i j : ℕ) → GoesTo to i j → j < n
  pub apart : (i k j : ℕ) → GoesTo to i j → GoesTo to k j → i ≡ k

-- a place that was not marked is marked
pub record Marks (old new : List Bool) (place : ℕ) : Type 0 where
  pub within : place < length old
  pub unmarked : slice_index_or old place false ≡ false
  pub marked : new ≡ slice_set old place true

-- there is no such place, or it is marked
abbrev pub IsMarkedOrNone : List Bool → ℕ → Type 0
IsMarkedOrNone old place = (length old ≤ place) ⊎ (slice_index_or old place false ≡ true)

-- the place is marked if that answer is true; without a place all stays
abbrev pub IsMarking : List Bool → List Bool → Option ℕ → Bool → Type 0
IsMarking old new None answer = (answer ≡ true) × (new ≡ old)
IsMarking old new (Some place) answer = MatchBool answer (Marks old new place) (IsMarkedOrNone old place)
