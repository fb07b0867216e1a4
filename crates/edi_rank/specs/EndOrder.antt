-- The order of the ends of a link behind its origin.
use Rattle.std.specs.Prelude.{ℕ, ◌<◌, List, [], ◌∷◌, None, length, map, slice_index_or, IsPermutation}
use Rattle.std.specs.List.{AllByRecursion}
use Rattle.edi_schema.specs.Sorted.{NeverFalls}
use Rattle.edi_plan.specs.Plans.{PlanData, record_at, others_of}
use Rattle.edi_plan.specs.declared.record.PlanEnd.{PlanEnd}
use Rattle.edi_rank.specs.Keys.{end_cmp, numbered}

-- what stands past the last end
abbrev pub no_end : PlanEnd
no_end = record { target = 0; sns = None }

-- the ends at these positions; where there is no position, the ends as they stand
abbrev pub ends_at : List ℕ → List PlanEnd → List PlanEnd
ends_at [] ends = ends
ends_at (i ∷ positions) ends = map (λ k. slice_index_or ends k no_end) (i ∷ positions)

-- each end is at one of these positions
pub record GivesEach (positions : List ℕ) (ends : List PlanEnd) : Type 0 where
  pub within : AllByRecursion (λ i. i < length ends) positions
  pub each : IsPermutation ends (ends_at positions ends)

-- by these positions the ends never fall
abbrev pub PutsInOrder : PlanData → (ℕ → ℕ) → List ℕ → List PlanEnd → Type 0
PutsInOrder p number positions ends =
    GivesEach positions ends × NeverFalls end_cmp (map (numbered p number) (ends_at positions ends))

-- the positions for the record at a place, of those by place
abbrev pub positions_at : List (List ℕ) → ℕ → List ℕ
positions_at orders place = slice_index_or orders place []

-- by these positions, by place, the other ends of the record at a place never fall
abbrev pub OthersInOrder : PlanData → (ℕ → ℕ) → List (List ℕ) → ℕ → Type 0
OthersInOrder p number orders place = PutsInOrder p number (positions_at orders place) (others_of (record_at p place))
