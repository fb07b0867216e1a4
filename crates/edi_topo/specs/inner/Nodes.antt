-- Nodes that nothing tells apart.
use Rattle.std.specs.Prelude.{ℕ, ◌<◌, ◌≤◌, Option, MatchOption}
use Rattle.edi_plan.specs.Plans.{PlanData}
use Rattle.edi_topo.specs.TopologyRules.{AreEqualNodes}

-- a node equal to an earlier one
abbrev pub RepeatsAnEarlier : PlanData → ℕ → Type 0
RepeatsAnEarlier p n = (m : ℕ) × (m < n) × AreEqualNodes p m n

-- the least place of a node equal to an earlier one; or there is none
abbrev pub IsFirstRepeatedNodeIfAny : PlanData → Option ℕ → Type 0
IsFirstRepeatedNodeIfAny p found =
    MatchOption found ((n : ℕ) → ¬ (RepeatsAnEarlier p n))
    (λ n. RepeatsAnEarlier p n × ((k : ℕ) → RepeatsAnEarlier p k → n ≤ k))
