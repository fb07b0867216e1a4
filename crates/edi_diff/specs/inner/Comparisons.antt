-- Two plans that are compared record by record.
use Rattle.std.specs.Prelude.{◌≡◌, ℕ, List, Option, length}
use Rattle.edi_plan.specs.Plans.{IsPlace, record_at}
use Rattle.edi_compare.specs.inner.Checking.{PairedPlans}
use Rattle.edi_matching.specs.Matchings.{GoesTo, targets_of}
use Rattle.edi_matching.specs.declared.matching.Matching.{Matching}
use Rattle.edi_report.specs.declared.parts.DifferingParts.{DifferingParts}
use Rattle.edi_diff.specs.Changes.{AreChangedParts}

-- two plans with the places where the records of the first are carried, what is unchanged of it and what became of it
pub record Comparison : Type 0 where
  pub carried : PairedPlans
  pub unchanged : List (Option ℕ)
  pub to : List (Option ℕ)

-- what became of the first plan
abbrev pub became : Comparison → Matching
became m = record { to = m.to; turned = m.carried.turned }

-- each record has an entry, goes where it is carried, and to a record
pub record IsComparable (m : Comparison) : Type 0 where
  pub all_unchanged : length m.unchanged ≡ length m.carried.plan.list
  pub all_entered : length m.to ≡ length m.carried.plan.list
  pub targeted : m.carried.to ≡ targets_of m.to
  pub within : (i j : ℕ) → GoesTo m.to i j → IsPlace m.carried.other j

-- the parts in which the record at the place i and that at the place j of the other plan differ
abbrev pub ArePartsAt : Comparison → ℕ → ℕ → DifferingParts → Type 0
ArePartsAt m i j =
    AreChangedParts m.carried.classes (became m) i (record_at m.carried.plan i) (record_at m.carried.other j)
