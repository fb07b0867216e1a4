-- Pairs that are added to a matching one after the other.
use Rattle.std.specs.Prelude.{◌≡◌, ◌⊎◌, ℕ, ◌+◌, ◌-◌, ◌<◌, ◌≤◌, Bool, true, false, List, Option, None, Some, Contains, length, slice_index_or, slice_set}
use Rattle.std.specs.declared.cmp.Ordering.{Ordering}
use Rattle.std.specs.List.Sorted.{IsPermutation, IsSortedBy}
use Rattle.std.specs.Ordering.{is_lt}
use Rattle.edi_schema.specs.declared.role.Role.{Role}
use Rattle.edi_plan.specs.Plans.{PlanData, IsPlace, record_at}
use Rattle.edi_matching.specs.Differences.{AreBeside, HoldsSame}
use Rattle.edi_matching.specs.Matchings.{GoesTo}
use Rattle.edi_matching.specs.declared.matching.Matching.{Matching}
use Rattle.edi_matching.specs.declared.ranked.Member.{Member}

-- positions in lists of entries, each of which has a key

-- the first position from this one on whose key isn't less
pub record IsFirstFrom {K X : Type 0} (cmp : K → K → Ordering) (entries : List (K × X)) (from : ℕ) (key : K)
    (at : ℕ) : Type 0 where
  pub onward : from ≤ at
  pub less : (k : ℕ) (d : K × X) → from ≤ k → k < at → is_lt (cmp (slice_index_or entries k d).0 key) ≡ true
  pub found : (d : K × X) → at < length entries → is_lt (cmp (slice_index_or entries at d).0 key) ≡ false

-- the entry at this position is the first with its key among those that stand together
abbrev pub StartsRun : {K X : Type 0} → (K → K → Bool) → List (K × X) → ℕ → Type 0
StartsRun {K} {X} eq entries at =
    (at ≡ 0) ⊎ ((d : K × X) → eq (slice_index_or entries (at - 1) d).0 (slice_index_or entries at d).0 ≡ false)

-- the keys never fall
abbrev pub AreInOrder : {K X : Type 0} → (K → K → Ordering) → List (K × X) → Type 0
AreInOrder cmp entries = IsSortedBy (λ x y. is_lt (cmp x.0 y.0)) entries

-- neither neighbour has the key at this position
pub record IsLone {K X : Type 0} (eq : K → K → Bool) (entries : List (K × X)) (at : ℕ) : Type 0 where
  pub before : (d : K × X) → 0 < at → eq (slice_index_or entries (at - 1) d).0 (slice_index_or entries at d).0 ≡ false
  pub behind : (d : K × X) → at + 1 < length entries
      → eq (slice_index_or entries (at + 1) d).0 (slice_index_or entries at d).0 ≡ false

-- there is an entry at this position, and it has this key
pub record HasKey {K X : Type 0} (eq : K → K → Bool) (entries : List (K × X)) (at : ℕ) (key : K) : Type 0 where
  pub within : at < length entries
  pub same : (d : K × X) → eq (slice_index_or entries at d).0 key ≡ true

-- the entries at these positions have one key, which each list has once
pub record AreLone {K X : Type 0} (eq : K → K → Bool) (entries : List (K × X)) (index : ℕ) (others : List (K × X))
    (at : ℕ) : Type 0 where
  pub same : (d : K × X) → HasKey eq others at (slice_index_or entries index d).0
  pub lone : IsLone eq entries index
  pub lone_there : IsLone eq others at

-- pairs of records

-- the record at the place j of q holds what that at the place i of p does
pub record AreAlike (p q : PlanData) (i j : ℕ) : Type 0 where
  pub here : IsPlace p i
  pub there : IsPlace q j
  pub turned : Bool
  pub same : HoldsSame (record_at p i) (record_at q j) turned

-- two that hold the same, and that a matched arc and the one it goes to have on the same side
pub record AreAlikeBeside (p q : PlanData) (m : Matching) (i j : ℕ) : Type 0 where
  pub arc : ℕ
  pub role : Role
  pub beside : AreBeside p q m role arc i j
  pub alike : AreAlike p q i j

-- some entry has this place
abbrev pub IsListed : {K : Type 0} → List (K × Member) → ℕ → Type 0
IsListed {K} entries i = (x : K × Member) × Contains entries x × (x.1.place ≡ i)

-- an entry for the place i has the key of an entry for the place j
pub record HaveOneKey {K X : Type 0} (eq : K → K → Bool) (place : X → ℕ) (entries others : List (K × X))
    (i j : ℕ) : Type 0 where
  pub here : K × X
  pub there : K × X
  pub listed : Contains entries here
  pub listed_there : Contains others there
  pub same : eq there.0 here.0 ≡ true
  pub is_here : place here.1 ≡ i
  pub is_there : place there.1 ≡ j

-- the same, where each list has the key once
pub record HaveLoneKey {K X : Type 0} (eq : K → K → Bool) (place : X → ℕ) (entries others : List (K × X))
    (i j : ℕ) : Type 0 where
  pub one : HaveOneKey eq place entries others i j
  pub lone : IsLone eq entries one.listed.0
  pub lone_there : IsLone eq others one.listed_there.0

-- how a matching grows

-- the record at the place i goes nowhere, and no record was taken to go to the place j
pub record AreFree (to : List (Option ℕ)) (taken : List Bool) (i j : ℕ) : Type 0 where
  pub here : i < length to
  pub left : slice_index_or to i None ≡ None
  pub free : slice_index_or taken j true ≡ false

-- all is as it was
pub record IsKept (to : List (Option ℕ)) (taken : List Bool) (more : List (Option ℕ)) (marks : List Bool) : Type 0 where
  pub places : more ≡ to
  pub marked : marks ≡ taken

-- the two were free, and the one goes to the other now
pub record IsAddedPair (i j : ℕ) (to : List (Option ℕ)) (taken : List Bool) (more : List (Option ℕ))
    (marks : List Bool) : Type 0 where
  pub free : AreFree to taken i j
  pub goes : more ≡ slice_set to i (Some j)
  pub marked : marks ≡ slice_set taken j true

-- the two are paired, if they were free
abbrev pub PairsIfFree : ℕ → ℕ → List (Option ℕ) → List Bool → List (Option ℕ) → List Bool → Type 0
PairsIfFree i j to taken more marks =
    IsAddedPair i j to taken more marks ⊎ (¬ (AreFree to taken i j) × IsKept to taken more marks)

-- the two are paired, if they were free and hold the same
abbrev pub PairsIfAlike : PlanData → PlanData → ℕ → ℕ → List (Option ℕ) → List Bool → List (Option ℕ) → List Bool → Type 0
PairsIfAlike p q i j to taken more marks =
    (AreAlike p q i j × IsAddedPair i j to taken more marks)
    ⊎ (¬ (AreAlike p q i j × AreFree to taken i j) × IsKept to taken more marks)

-- the same, if there are both
abbrev pub PairsIfBoth : PlanData → PlanData → Option ℕ → Option ℕ → List (Option ℕ) → List Bool → List (Option ℕ)
    → List Bool → Type 0
PairsIfBoth p q None target to taken more marks = IsKept to taken more marks
PairsIfBoth p q (Some i) None to taken more marks = IsKept to taken more marks
PairsIfBoth p q (Some i) (Some j) to taken more marks = PairsIfAlike p q i j to taken more marks

-- a pair of this kind, whose second was free before and is taken now
pub record IsAdded (Pair : ℕ → ℕ → Type 0) (taken marks : List Bool) (i j : ℕ) : Type 0 where
  pub pair : Pair i j
  pub free : slice_index_or taken j true ≡ false
  pub marked : slice_index_or marks j true ≡ true

-- Pairs of this kind were added: what went somewhere goes there still, what goes anywhere else is such a pair, no two
-- of the new go to one, and what they go to is taken.
pub record AddsPairs (Pair : ℕ → ℕ → Type 0) (to : List (Option ℕ)) (taken : List Bool) (more : List (Option ℕ))
    (marks : List Bool) : Type 0 where
  pub long : length more ≡ length to
  pub wide : length marks ≡ length taken
  pub keeps : (i j : ℕ) → GoesTo to i j → GoesTo more i j
  pub only : (i j : ℕ) → GoesTo more i j → GoesTo to i j ⊎ IsAdded Pair taken marks i j
  pub apart : (i k j : ℕ) → GoesTo more i j → GoesTo more k j → ¬ (GoesTo to i j) → ¬ (GoesTo to k j) → i ≡ k
  pub stays : (j : ℕ) → slice_index_or taken j true ≡ true → slice_index_or marks j true ≡ true
  pub marked : (j : ℕ) → slice_index_or marks j true ≡ true
      → slice_index_or taken j true ≡ true ⊎ ((i : ℕ) × GoesTo more i j)

-- in lists in the order of their keys: no two that hold the same and whose key each list has once are left
abbrev pub LeavesNoLone : {K : Type 0} → (K → K → Ordering) → (K → K → Bool) → PlanData → PlanData → List (K × Member)
    → List (K × Member) → List (Option ℕ) → List Bool → Type 0
LeavesNoLone cmp eq p q entries others to taken =
    AreInOrder cmp entries → AreInOrder cmp others → (i j : ℕ)
    → HaveLoneKey eq (λ (m : Member). m.place) entries others i j → AreAlike p q i j → ¬ (AreFree to taken i j)

-- Of records by these entries, in some order, pairs were added that have one key and hold the same, and no such pair is
-- left whose key each list has once.
pub record PairsByKey {K : Type 0} (eq : K → K → Bool) (p q : PlanData) (entries others : List (K × Member))
    (to : List (Option ℕ)) (taken : List Bool) (more : List (Option ℕ)) (marks : List Bool) : Type 0 where
  pub here : List (K × Member)
  pub there : List (K × Member)
  pub listed : IsPermutation entries here
  pub listed_there : IsPermutation others there
  pub pairs :
      AddsPairs (λ i j. HaveOneKey eq (λ (m : Member). m.place) here there i j × AreAlike p q i j) to taken more marks
  pub none_left : (i j : ℕ) → HaveLoneKey eq (λ (m : Member). m.place) here there i j → AreAlike p q i j
      → ¬ (AreFree more marks i j)
