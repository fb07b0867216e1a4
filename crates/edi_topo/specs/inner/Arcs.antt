-- Arcs that nothing but their direction tells apart.
use Rattle.std.specs.Prelude.{◌≡◌, ◌⊎◌, ℕ, ◌<◌, ◌≤◌, List, reverse, Option, MatchOption}
use Rattle.edi_record.specs.declared.record.Kind.TheVariants.{Par}
use Rattle.edi_record.specs.declared.record.Point.{Point}
use Rattle.edi_plan.specs.Plans.{PlanData}
use Rattle.edi_topo.specs.TopologyRules.{HasPoints}

-- an arc with the points of an earlier one, in either direction
abbrev pub RepeatsAnEarlierArc : PlanData → ℕ → Type 0
RepeatsAnEarlierArc p b =
    (a : ℕ) × (earlier points : List Point) × (a < b) × HasPoints p Par a earlier × HasPoints p Par b points
    × ((points ≡ earlier) ⊎ (points ≡ reverse earlier))

-- the least place of such an arc; or there is none
abbrev pub IsFirstRepeatedArcIfAny : PlanData → Option ℕ → Type 0
IsFirstRepeatedArcIfAny p found =
    MatchOption found ((n : ℕ) → ¬ (RepeatsAnEarlierArc p n))
    (λ n. RepeatsAnEarlierArc p n × ((k : ℕ) → RepeatsAnEarlierArc p k → n ≤ k))
