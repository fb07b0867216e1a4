-- What a plan hands on to each plan that is the same.
use Rattle.edi_line.specs.Refusal.{IsUnbroken}
use Rattle.edi_schema.specs.Classes.{Classes}
use Rattle.edi_plan.specs.Plans.{PlanData}
use Rattle.edi_plan.specs.Joined.{IsJoined}
use Rattle.edi_topo.specs.TopologyRules.{BreaksTopologyRule}
use Rattle.edi_rank.specs.EqualObjects.{BreaksObjectRule}
use Rattle.edi_rank.specs.Laws.{IsPlanUnder}
use Rattle.edi_rank.specs.Same.{Same}

-- a plan that breaks no rule of topology is the same as such plans alone
abbrev pub TopologyIsPreserved : Type 0
TopologyIsPreserved =
    (s : Classes) (p q : PlanData) → IsPlanUnder s p → IsPlanUnder s q → Same s p q → IsUnbroken (BreaksTopologyRule p)
    → IsUnbroken (BreaksTopologyRule q)

-- and so are the joins
abbrev pub JoinsArePreserved : Type 0
JoinsArePreserved =
    (s : Classes) (p q : PlanData) → IsPlanUnder s p → IsPlanUnder s q → Same s p q → IsJoined p → IsJoined q

-- and of a plan whose links of the four kinds are joins, that no two objects are equal
abbrev pub ObjectsArePreserved : Type 0
ObjectsArePreserved =
    (s : Classes) (p q : PlanData) → IsPlanUnder s p → IsPlanUnder s q → IsJoined p → Same s p q
    → IsUnbroken (BreaksObjectRule p) → IsUnbroken (BreaksObjectRule q)
