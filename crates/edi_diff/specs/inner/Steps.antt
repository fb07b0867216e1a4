-- Changes that are found one by one.
use Rattle.std.specs.Prelude.{◌≡◌, ℕ, Bool, List, Option, length}
use Rattle.edi_plan.specs.Plans.{PlanData, IsPlace, record_at}
use Rattle.edi_matching.specs.declared.matching.Matching.{Matching}
use Rattle.edi_report.specs.Tables.{AreMarks}
use Rattle.edi_diff.specs.Changes.{AreChanges}

-- both are records of one type
pub record MayGo (p q : PlanData) (i j : ℕ) : Type 0 where
  pub here : IsPlace p i
  pub there : IsPlace q j
  pub type : (record_at q j).kind ≡ (record_at p i).kind

-- changes, with the places that are reached
pub record AreSteps (p q : PlanData) (unchanged : Matching) (to : List (Option ℕ)) (turned : List Bool)
    (reached : List Bool) : Type 0 where
  pub changes : AreChanges p q unchanged (record { to = to; turned = turned })
  pub marks : AreMarks to (length q.list) reached
