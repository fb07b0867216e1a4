-- A matching of the records of two plans: what a pairing is, of some of the records.
use Rattle.std.specs.Prelude.{◌≡◌, ℕ, List, map, length, slice_index, slice_index_or, unwrap_or, Option, None, Some, true}
use Rattle.std.specs.List.{AllByRecursion}
use Rattle.edi_record.specs.declared.record.Kind.TheVariants.{Par}
use Rattle.edi_schema.specs.Classes.{Classes}
use Rattle.edi_plan.specs.Plans.{PlanData, IsPlace, record_at}
use Rattle.edi_rank.specs.Labelling.{turned_at}
use Rattle.edi_rank.specs.Same.{CarriesRecord}
use Rattle.edi_matching.specs.declared.matching.Matching.{Matching}

-- the record at the place i goes to the record at the place j of the other plan
abbrev pub GoesTo : List (Option ℕ) → ℕ → ℕ → Type 0
GoesTo to i j = slice_index_or to i None ≡ Some j

-- the record at the place i is matched
abbrev pub IsMatched : List (Option ℕ) → ℕ → Type 0
IsMatched to i = (j : ℕ) × GoesTo to i j

-- where the records go, with 0 for one that goes nowhere
abbrev pub targets_of : List (Option ℕ) → List ℕ
targets_of to = map (λ target. unwrap_or target 0) to

-- The matching has an entry for each record of p. No two records go to one; those that are reversed are matched arcs;
-- the ends of a matched record are matched; and each matched record is carried, with its ends, onto the record of q
-- that it goes to.
pub record MatchingHolds (s : Classes) (p q : PlanData) (m : Matching) : Type 0 where
  pub all_entered : length m.to ≡ length p.list
  pub all_directed : length m.turned ≡ length p.list
  pub within : (i j : ℕ) → GoesTo m.to i j → IsPlace q j
  pub apart : (i k j : ℕ) → GoesTo m.to i j → GoesTo m.to k j → i ≡ k
  pub arcs : (i : ℕ) → IsPlace p i → turned_at m.turned i ≡ true → IsMatched m.to i × ((record_at p i).kind ≡ Par)
  pub ends : (i j : ℕ) → GoesTo m.to i j → AllByRecursion (λ e. IsMatched m.to e.target) (record_at p i).ends
  pub each : (i j : ℕ) → GoesTo m.to i j
      → CarriesRecord s (slice_index (targets_of m.to)) (turned_at m.turned) i (record_at p i) (record_at q j)

-- each record of p is matched, and each record of q is one that it goes to
pub record IsTotal (p q : PlanData) (m : Matching) : Type 0 where
  pub each : (i : ℕ) → IsPlace p i → IsMatched m.to i
  pub onto : (j : ℕ) → IsPlace q j → (i : ℕ) × GoesTo m.to i j
