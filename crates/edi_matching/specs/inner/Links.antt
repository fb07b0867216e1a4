-- Links that a matching leaves, and what they are sought by.
use Rattle.std.specs.Prelude.{◌≡◌, ℕ, ◌<◌, ◌⊎◌, Bool, true, false, List, Option, None, Some, Contains, MatchOption, length, slice_index, slice_index_or}
use Rattle.std.specs.List.{AllByRecursion}
use Rattle.edi_record.specs.declared.record.Kind.{Kind}
use Rattle.edi_record.specs.declared.record.Kind.TheVariants.{Lnk}
use Rattle.edi_schema.specs.Classes.{partner_of}
use Rattle.edi_plan.specs.Plans.{PlanData, IsPlace, record_at}
use Rattle.edi_plan.specs.declared.record.PlanRecord.{PlanRecord}
use Rattle.edi_rank.specs.Keys.{ends_key, link_key}
use Rattle.edi_rank.specs.Labelling.{turned_at}
use Rattle.edi_rank.specs.Same.{class_after}
use Rattle.edi_rank.specs.declared.keys.LinkKey.{LinkKey}
use Rattle.edi_matching.specs.Differences.{IsReached}
use Rattle.edi_matching.specs.Matchings.{GoesTo, IsMatched}
use Rattle.edi_matching.specs.declared.matching.Matching.{Matching}
use Rattle.edi_matching.specs.inner.Entries.{link_key_with}
use Rattle.edi_matching.specs.inner.Proposals.{ProposedMatching, IsCarriedOnto}

-- the places below n to which records go are marked, and these alone
pub record AreReached (to : List (Option ℕ)) (n : ℕ) (marks : List Bool) : Type 0 where
  pub long : length marks ≡ n
  pub marked : (j : ℕ) → j < n → IsReached to j → slice_index_or marks j false ≡ true
  pub found : (j : ℕ) → slice_index_or marks j false ≡ true → IsReached to j

-- a place was marked, if there is one
pub record IsMarked (target : Option ℕ) (old new : List Bool) : Type 0 where
  pub long : length new ≡ length old
  pub marked : (j : ℕ) → target ≡ Some j → j < length old → slice_index_or new j false ≡ true
  pub keeps : (j : ℕ) → slice_index_or old j false ≡ true → slice_index_or new j false ≡ true
  pub found : (j : ℕ) → slice_index_or new j false ≡ true → slice_index_or old j false ≡ true ⊎ (target ≡ Some j)

-- what was marked is
abbrev pub IsMoreReached : List Bool → List Bool → Type 0
IsMoreReached old new = (j : ℕ) → slice_index_or new j true ≡ false → slice_index_or old j true ≡ false

-- each link of the plan that isn't marked is listed with its key
abbrev pub ListsFree : PlanData → List Bool → List (LinkKey × ℕ) → Type 0
ListsFree q marks pairs = (j : ℕ) → IsPlace q j → (record_at q j).kind ≡ Lnk → slice_index_or marks j true ≡ false
    → Contains pairs (link_key q (λ k. k) (record_at q j), j)

-- the key that a link has where its ends go, with this class
abbrev pub moved_key : PlanData → (ℕ → ℕ) → ℕ → PlanRecord → LinkKey
moved_key p to class r = link_key_with class (ends_key p to r.ends) r

-- the key that the link at the place i has where its ends go, with its class after the reversals
abbrev pub key_there : ProposedMatching → ℕ → LinkKey
key_there m i =
    moved_key m.plan (slice_index m.targets)
    (class_after (partner_of m.classes) (turned_at m.turned) (record_at m.plan i)) (record_at m.plan i)

-- the record at the place i is carried, with all its ends, onto that at the place j, which isn't marked
pub record IsFreeFor (m : ProposedMatching) (marks : List Bool) (i j : ℕ) : Type 0 where
  pub there : IsPlace m.other j
  pub free : slice_index_or marks j true ≡ false
  pub ends : AllByRecursion (λ e. IsMatched m.to e.target) (record_at m.plan i).ends
  pub carried : IsCarriedOnto m i j

-- such a record for that at the place i, or there is none
abbrev pub IsMissedIfAny : ProposedMatching → List Bool → ℕ → Option ℕ → Type 0
IsMissedIfAny m marks i found = MatchOption found ((j : ℕ) → ¬ (IsFreeFor m marks i j)) (IsFreeFor m marks i)

-- the same, where the record at the place i goes nowhere yet
abbrev pub IsLeftIfAny : ProposedMatching → List Bool → List (Option ℕ) → ℕ → Option ℕ → Type 0
IsLeftIfAny m marks to i found =
    MatchOption found (¬ (IsMatched to i) → (j : ℕ) → ¬ (IsFreeFor m marks i j))
    (λ j. (slice_index_or to i None ≡ None) × IsFreeFor m marks i j)

-- the records go there, with the arcs that are turned
abbrev pub matching_so : ProposedMatching → List (Option ℕ) → Matching
matching_so m to = record { to = to; turned = m.turned }

-- some more records of a type go somewhere, and the same arcs are reversed
pub record AddsOnly (kind : Kind) (p : PlanData) (before after : Matching) : Type 0 where
  pub long : length after.to ≡ length before.to
  pub turned : after.turned ≡ before.turned
  pub keeps : (k j : ℕ) → GoesTo before.to k j → GoesTo after.to k j
  pub only : (k : ℕ) → IsMatched after.to k → IsMatched before.to k ⊎ ((record_at p k).kind ≡ kind)
