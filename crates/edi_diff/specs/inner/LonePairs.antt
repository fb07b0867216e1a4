-- Records that alone have a key, one of each sheet.
use Rattle.std.specs.Prelude.{◌≡◌, ◌≢◌, ◌↔◌, ℕ, ◌+◌, ◌-◌, ◌<◌, true, false, List, length, filter, flat_map, map, slice_index_or, Contains, Option, Some, option_to_list}
use Rattle.std.specs.Ordering.{is_eq}
use Rattle.std.specs.declared.cmp.Ordering.{Ordering}
use Rattle.std.specs.declared.cmp.Ordering.TheVariants.{Equal}
use Rattle.edi_diff.specs.declared.changes.Proposal.{Proposal}
use Rattle.edi_diff.specs.declared.changes.Way.{Way}
use Rattle.edi_diff.specs.declared.changes.Way.TheVariants.{Points, Contents, Joined, Ends}
use Rattle.edi_diff.specs.declared.proposing.LinkClass.{LinkClass}
use Rattle.edi_diff.specs.inner.Codes.{is_of_second, place_by, proposal_by}
use Rattle.edi_diff.specs.inner.Joints.{AreJoints}
use Rattle.edi_diff.specs.inner.Keys.{contents_key, contents_key_cmp, named_ends_key, ends_key_cmp, joined_key, joined_key_cmp, points_key, points_key_cmp}
use Rattle.edi_diff.specs.inner.Progress.{ChangesSoFar, open_codes, plan_of}

-- a record with its key, if it has one
abbrev pub with_code : {K : Type 0} → Option K → ℕ → List (K × ℕ)
with_code key code = map (λ found. (found, code)) (option_to_list key)

-- the records that have a key, each with it
abbrev pub with_keys : {K : Type 0} → (ℕ → Option K) → List ℕ → List (K × ℕ)
with_keys key codes = flat_map (λ code. with_code (key code) code) codes

-- those of them that have this key
abbrev pub with_key : {K : Type 0} → (K → K → Ordering) → List (K × ℕ) → K → List (K × ℕ)
with_key cmp pairs key = filter (λ pair. is_eq (cmp pair.0 key)) pairs

-- one record of the first sheet and one of the second have one key, which no other has, and the proposal is of these
pub record IsLonePair {K : Type 0} (cmp : K → K → Ordering) (pairs : List (K × ℕ)) (w : Proposal) : Type 0 where
  pub first : K × ℕ
  pub second : K × ℕ
  pub here : Contains pairs first
  pub there : Contains pairs second
  pub one_key : cmp first.0 second.0 ≡ Equal
  pub alone : length (with_key cmp pairs first.0) ≡ 2
  pub of_first : is_of_second first.1 ≡ false
  pub of_second : is_of_second second.1 ≡ true
  pub place : w.place ≡ place_by first.1
  pub target : w.target ≡ place_by second.1

-- such proposals, and all of them
abbrev pub AreLonePairs : {K : Type 0} → (K → K → Ordering) → List (K × ℕ) → List Proposal → Type 0
AreLonePairs cmp pairs found = (w : Proposal) → Contains found w ↔ IsLonePair cmp pairs w

-- the record at the place in the list has this key
abbrev pub HasKeyAt : {K : Type 0} → (K → K → Ordering) → List (K × ℕ) → Option ℕ → K → Type 0
HasKeyAt {K} cmp pairs at key =
    (k : ℕ) × (at ≡ Some k) × (k < length pairs) × ((d : K × ℕ) → cmp (slice_index_or pairs k d).0 key ≡ Equal)

-- the record at the place in the list and the next have one key, which those beside them don't have, and the proposal
-- is of these two
pub record IsLoneAt {K : Type 0} (cmp : K → K → Ordering) (pairs : List (K × ℕ)) (at : ℕ) (w : Proposal) : Type 0 where
  pub within : at + 1 < length pairs
  pub one_key : (d : K × ℕ) → cmp (slice_index_or pairs at d).0 (slice_index_or pairs (at + 1) d).0 ≡ Equal
  pub before : (d : K × ℕ) → 0 < at → cmp (slice_index_or pairs (at - 1) d).0 (slice_index_or pairs at d).0 ≢ Equal
  pub behind : (d : K × ℕ) → at + 2 < length pairs
      → cmp (slice_index_or pairs (at + 2) d).0 (slice_index_or pairs at d).0 ≢ Equal
  pub is : (d : K × ℕ) → proposal_by (slice_index_or pairs at d).1 (slice_index_or pairs (at + 1) d).1 ≡ Some w

-- the proposal is of these two, if there is one
abbrev pub IsLoneIfAny : {K : Type 0} → (K → K → Ordering) → List (K × ℕ) → ℕ → Option Proposal → Type 0
IsLoneIfAny cmp pairs at found = (w : Proposal) → (found ≡ Some w) ↔ IsLoneAt cmp pairs at w

-- the proposals of all such neighbours in the list
abbrev pub AreLoneNeighbours : {K : Type 0} → (K → K → Ordering) → List (K × ℕ) → List Proposal → Type 0
AreLoneNeighbours cmp pairs found = (w : Proposal) → Contains found w ↔ ((at : ℕ) × IsLoneAt cmp pairs at w)

-- what is proposed of the records that are still open: nodes and arcs by their points
abbrev pub AreByPoints : ChangesSoFar → List Proposal → Type 0
AreByPoints m found =
    AreLonePairs points_key_cmp
    (with_keys (λ code. points_key (plan_of m (is_of_second code)) (place_by code)) (open_codes m)) found

-- records by their contents
abbrev pub AreByContents : ChangesSoFar → List Proposal → Type 0
AreByContents m found =
    AreLonePairs contents_key_cmp
    (with_keys (λ code. contents_key (plan_of m (is_of_second code)) (place_by code)) (open_codes m)) found

-- records by what links join them with
abbrev pub AreByJoints : ChangesSoFar → List Proposal → Type 0
AreByJoints m found =
    (joints : List (ℕ × (LinkClass × ℕ))) × AreJoints m joints
    × AreLonePairs joined_key_cmp (with_keys (joined_key m joints) (open_codes m)) found

-- links by their ends
abbrev pub AreByEnds : ChangesSoFar → List Proposal → Type 0
AreByEnds m found = AreLonePairs ends_key_cmp (with_keys (named_ends_key m) (open_codes m)) found

-- what is proposed by one way
abbrev pub AreProposals : ChangesSoFar → Way → List Proposal → Type 0
AreProposals m Points found = AreByPoints m found
AreProposals m Contents found = AreByContents m found
AreProposals m Joined found = AreByJoints m found
AreProposals m Ends found = AreByEnds m found
