-- Members in the order of their keys.
use Rattle.std.specs.Prelude.{◌≡◌, ℕ, zero, suc, ◌+◌, ◌<◌, ◌≤◌, List, [], ◌∷◌, ◌++◌, length, slice_index, if◌then◌else◌, ⊤}
use Rattle.std.specs.declared.cmp.Ordering.{Ordering}
use Rattle.std.specs.declared.cmp.Ordering.TheVariants.{Equal}
use Rattle.std.specs.Ordering.{is_lt}
use Rattle.edi_plan.specs.EarlierLinks.{IsLeast}
use Rattle.edi_topo.specs.declared.fault.TieFault.{TieFault}
use Rattle.edi_topo.specs.declared.fault.TieFault.TheVariants.{Memory, Tie}
use Rattle.edi_topo.specs.declared.fault.Tied.{Tied}

-- the sum over the numbers below n
abbrev pub sum_below : ℕ → (ℕ → ℕ) → ℕ
sum_below zero f = 0
sum_below (suc n) f = f n + sum_below n f

-- each of the first n members with its key, in their order
abbrev pub keyed : {K : Type 0} → (ℕ → K) → ℕ → List (K × ℕ)
keyed key zero = []
keyed key (suc n) = keyed key n ++ (key n, n) ∷ []

module _ {K : Type 0} (cmp : K → K → Ordering) (key : ℕ → K) (size : ℕ) where
  -- one more than the count of lesser keys
  abbrev pub rank : ℕ → ℕ
  rank m = sum_below size (λ n. if is_lt (cmp (key n) (key m)) then 1 else 0) + 1

  -- a member with the key of an earlier one
  abbrev pub Ties : ℕ → Type 0
  Ties m = (m < size) × ((earlier : ℕ) × (earlier < m) × (cmp (key earlier) (key m) ≡ Equal))

  -- an earlier member has the key of this one
  abbrev pub HasItsKey : ℕ → ℕ → Type 0
  HasItsKey m earlier = (earlier < m) × (cmp (key earlier) (key m) ≡ Equal)

  -- the least member with the key of an earlier one, and the first with this key
  pub record IsFirstTie (tied : Tied) : Type 0 where
    pub ties : Ties tied.member
    pub least : (n : ℕ) → Ties n → tied.member ≤ n
    pub earlier : IsLeast (HasItsKey tied.member) tied.earlier

  -- no two keys are equal, and each member has its number; these are the numbers from 1 to the count
  pub record IsRanking (numbers : List ℕ) : Type 0 where
    pub distinct : (m : ℕ) → ¬ (Ties m)
    pub all : length numbers ≡ size
    pub each : (m : ℕ) → m < size → slice_index numbers m ≡ rank m
    pub onto : (i : ℕ) → i < size → (m : ℕ) × (m < size) × (slice_index numbers m ≡ i + 1)

  -- a fault other than lack of memory names the least member with the key of an earlier one
  abbrev pub IsTie : TieFault → Type 0
  IsTie (Memory e) = ⊤
  IsTie (Tie m) = Ties m × ((n : ℕ) → Ties n → m ≤ n)
