-- Members put in the order of their keys.
use Rattle.std.specs.Prelude.{◌≡◌, ◌≢◌, ℕ, ◌+◌, ◌<◌, List, ◌≤◌, length, slice_index_or, Option, MatchOption}
use Rattle.std.specs.List.{AllAdjacentBelow}
use Rattle.std.specs.declared.cmp.Ordering.{Ordering}
use Rattle.std.specs.declared.cmp.Ordering.TheVariants.{Equal}
use Rattle.edi_topo.specs.declared.fault.Tied.{Tied}

-- of the first n places, the least member that follows one with its key, and that one
pub record IsLeastRepeat {K : Type 0} (cmp : K → K → Ordering) (pairs : List (K × ℕ)) (n : ℕ) (tied : Tied) : Type 0 where
  pub place : ℕ
  pub within : place + 1 < length pairs
  pub seen : place + 1 < n
  pub repeats : (d : K × ℕ) → cmp (slice_index_or pairs place d).0 (slice_index_or pairs (place + 1) d).0 ≡ Equal
  pub is : (d : K × ℕ) → (slice_index_or pairs (place + 1) d).1 ≡ tied.member
  pub before : (d : K × ℕ) → (slice_index_or pairs place d).1 ≡ tied.earlier
  pub least : (k : ℕ) (d : K × ℕ) → k + 1 < n → cmp (slice_index_or pairs k d).0 (slice_index_or pairs (k + 1) d).0
      ≡ Equal → tied.member ≤ (slice_index_or pairs (k + 1) d).1

-- the least repeat among the first n places, if there is one
abbrev pub IsLeastRepeatIfAny : {K : Type 0} → (K → K → Ordering) → List (K × ℕ) → ℕ → Option Tied → Type 0
IsLeastRepeatIfAny cmp pairs n least =
    MatchOption least (AllAdjacentBelow (λ x y. cmp x.0 y.0 ≢ Equal) pairs n)
    (IsLeastRepeat cmp pairs n)

-- one of the first n places has this member, behind one with its key
pub record FollowsItsKey {K : Type 0} (cmp : K → K → Ordering) (pairs : List (K × ℕ)) (n member : ℕ) : Type 0 where
  pub place : ℕ
  pub within : place + 1 < length pairs
  pub seen : place + 1 < n
  pub repeats : (d : K × ℕ) → cmp (slice_index_or pairs place d).0 (slice_index_or pairs (place + 1) d).0 ≡ Equal
  pub is : (d : K × ℕ) → (slice_index_or pairs (place + 1) d).1 ≡ member
