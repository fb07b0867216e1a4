-- What is checked of a matching, record by record.
use Rattle.std.specs.Prelude.{◌≡◌, ℕ, Bool, true, List, Option, length, slice_index}
use Rattle.std.specs.List.{AllByRecursion}
use Rattle.edi_record.specs.declared.record.Kind.TheVariants.{Par}
use Rattle.edi_schema.specs.Classes.{Classes}
use Rattle.edi_plan.specs.Plans.{PlanData, IsPlace, record_at}
use Rattle.edi_rank.specs.Labelling.{turned_at}
use Rattle.edi_rank.specs.Same.{CarriesRecord}
use Rattle.edi_plan.specs.Agreeing.{HasClasses}
use Rattle.edi_matching.specs.Matchings.{GoesTo, IsMatched, targets_of}
use Rattle.edi_matching.specs.declared.matching.Matching.{Matching}

-- two plans of one schema, where it is proposed that the records of the first go, if anywhere, the same as places, and
-- which are turned
pub record ProposedMatching : Type 0 where
  pub classes : Classes
  pub plan : PlanData
  pub other : PlanData
  pub to : List (Option ℕ)
  pub targets : List ℕ
  pub turned : List Bool

-- what a matching of two plans proposes
abbrev pub proposal_of : Classes → PlanData → PlanData → Matching → ProposedMatching
proposal_of s p q m =
    record { classes = s; plan = p; other = q; to = m.to; targets = targets_of m.to; turned = m.turned }

-- each record has an entry, and where it goes is a place of the other plan
pub record IsWithinPlans (m : ProposedMatching) : Type 0 where
  pub classed : HasClasses m.classes m.plan
  pub all_entered : length m.to ≡ length m.plan.list
  pub all_directed : length m.turned ≡ length m.plan.list
  pub all_targeted : length m.targets ≡ length m.plan.list
  pub within : (i j : ℕ) → GoesTo m.to i j → IsPlace m.other j

-- the record at the place i is carried onto that at the place j of the other plan
abbrev pub IsCarriedOnto : ProposedMatching → ℕ → ℕ → Type 0
IsCarriedOnto m i j =
    CarriesRecord m.classes (slice_index m.targets) (turned_at m.turned) i (record_at m.plan i) (record_at m.other j)

-- what is asked of the record at the place i
pub record HoldsAt (m : ProposedMatching) (i : ℕ) : Type 0 where
  pub arc : turned_at m.turned i ≡ true → IsMatched m.to i × ((record_at m.plan i).kind ≡ Par)
  pub ends : (j : ℕ) → GoesTo m.to i j → AllByRecursion (λ e. IsMatched m.to e.target) (record_at m.plan i).ends
  pub carries : (j : ℕ) → GoesTo m.to i j → IsCarriedOnto m i j
