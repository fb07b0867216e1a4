-- What became of the records of one sheet in another: they are the same, they changed, or they are gone.
use Rattle.std.specs.Prelude.{◌≡◌, ◌↔◌, ℕ, List, IsPermutation, false, length, map, option_map, slice_index, true}
use Rattle.std.specs.List.{AllByRecursion}
use Rattle.edi_record.specs.declared.record.Kind.TheVariants.{Par}
use Rattle.edi_schema.specs.Classes.{Classes, partner_of}
use Rattle.edi_plan.specs.Plans.{PlanData, IsPlace, record_at, origin_of, others_of}
use Rattle.edi_plan.specs.declared.record.PlanRecord.{PlanRecord}
use Rattle.edi_rank.specs.Labelling.{turned_at}
use Rattle.edi_rank.specs.Same.{class_after, directed, moved}
use Rattle.edi_matching.specs.Matchings.{GoesTo, IsMatched, targets_of}
use Rattle.edi_matching.specs.declared.matching.Matching.{Matching}
use Rattle.edi_diff.specs.Directions.{RunsBackwards}
use Rattle.edi_report.specs.Reports.{parts_at}
use Rattle.edi_report.specs.declared.parts.DifferingParts.{DifferingParts}

-- Beside the records of p that are matched, some others go to records of q of their types, which they became; no two go
-- to one. Those of them that are reversed are arcs, and an arc that became another is reversed if it runs the other
-- way.
pub record AreChanges (p q : PlanData) (unchanged became : Matching) : Type 0 where
  pub all_entered : length became.to ≡ length p.list
  pub all_directed : length became.turned ≡ length p.list
  pub keeps : (i j : ℕ) → GoesTo unchanged.to i j → GoesTo became.to i j
  pub directions : (i : ℕ) → IsMatched unchanged.to i → turned_at became.turned i ≡ turned_at unchanged.turned i
  pub arcs : (i : ℕ) → IsPlace p i → turned_at became.turned i ≡ true → (record_at p i).kind ≡ Par
  pub turns : (i j : ℕ) → ¬ (IsMatched unchanged.to i) → GoesTo became.to i j → (record_at p i).kind ≡ Par
      → RunsBackwards (record_at p i).points (record_at q j).points (turned_at became.turned i)
  pub within : (i j : ℕ) → GoesTo became.to i j → IsPlace q j
  pub apart : (i k j : ℕ) → GoesTo became.to i j → GoesTo became.to k j → i ≡ k
  pub types : (i j : ℕ) → GoesTo became.to i j → (record_at q j).kind ≡ (record_at p i).kind

-- the ends of the record a became those of the record b
pub record HasEndsOf (became : Matching) (a b : PlanRecord) : Type 0 where
  pub all : AllByRecursion (λ e. IsMatched became.to e.target) a.ends
  pub origin : origin_of b ≡ option_map (moved (slice_index (targets_of became.to))) (origin_of a)
  pub others : IsPermutation (map (moved (slice_index (targets_of became.to))) (others_of a)) (others_of b)

-- The parts in which the record a at the place i and the record b that it became differ, after the reversals: each is
-- said to differ exactly unless it is that of b.
pub record AreChangedParts (s : Classes) (became : Matching) (i : ℕ) (a b : PlanRecord) (parts : DifferingParts)
    : Type 0 where
  pub class : (parts.class ≡ false) ↔ (b.class ≡ class_after (partner_of s) (turned_at became.turned) a)
  pub attributes : (parts.attributes ≡ false) ↔ IsPermutation a.attributes b.attributes
  pub extras : (parts.extras ≡ false) ↔ (b.extras ≡ a.extras)
  pub points : (parts.points ≡ false) ↔ (b.points ≡ directed (turned_at became.turned i) a.points)
  pub ends : (parts.ends ≡ false) ↔ HasEndsOf became a b

-- the parts of each record that changed
abbrev pub ArePartsOfEach : Classes → PlanData → PlanData → Matching → Matching → List DifferingParts → Type 0
ArePartsOfEach s p q unchanged became parts =
    (i j : ℕ) → ¬ (IsMatched unchanged.to i) → GoesTo became.to i j
    → AreChangedParts s became i (record_at p i) (record_at q j) (parts_at parts i)
