-- The rules of topology at one record.
use Rattle.std.specs.Prelude.{◌≡◌, ℕ, suc, ◌≤◌, IfOk, IfErr, Option, MatchOption, Some}
use Rattle.edi_plan.specs.EarlierLinks.{IsLeast}
use Rattle.edi_plan.specs.Plans.{PlanData}
use Rattle.edi_topo.specs.EarlierRecords.{IsEqualNode, SharesPoints}
use Rattle.edi_topo.specs.TopologyRules.{BreaksTopologyRule}
use Rattle.edi_topo.specs.inner.Faces.{AreFaced}
use Rattle.edi_topo.specs.NodeKeys.{IsNodeRanking}
use Rattle.edi_topo.specs.inner.Nodes as Nodes
use Rattle.edi_topo.specs.Arcs.{IsForwardRanking}
use Rattle.edi_topo.specs.inner.Arcs as Arcs
use Rattle.edi_topo.specs.inner.Repeats.{repeat_place}
use Rattle.edi_topo.specs.declared.at_record.RecordFindings.{RecordFindings}

-- no rule is broken at the record of this place, from 0
abbrev pub IsUnbrokenAt : PlanData → ℕ → Type 0
IsUnbrokenAt p place = (rule : ℕ) → ¬ (BreaksTopologyRule p rule (suc place))

-- the rule is the least that is broken there
pub record IsLeastAt (p : PlanData) (place rule : ℕ) : Type 0 where
  pub is : BreaksTopologyRule p rule (suc place)
  pub least : (other : ℕ) → BreaksTopologyRule p other (suc place) → rule ≤ other

-- the least rule that is broken there, or none is
abbrev pub IsLeastAtIfAny : PlanData → ℕ → Option ℕ → Type 0
IsLeastAtIfAny p place found = MatchOption found (IsUnbrokenAt p place) (IsLeastAt p place)

-- the place isn't past this one, if there is one
abbrev pub IsUpTo : Option ℕ → ℕ → Type 0
IsUpTo found place = (k : ℕ) → found ≡ Some k → place ≤ k

-- what was found: the numbers of the nodes and of the arcs, or the first that repeats an earlier one and the first that
-- it repeats, and which faces are on a side
pub record AreRecordFindings (p : PlanData) (found : RecordFindings) : Type 0 where
  pub nodes : IfOk found.nodes (IsNodeRanking p)
  pub node_repeat : Nodes.IsFirstRepeatedNodeIfAny p (repeat_place found.nodes)
  pub node_earlier : IfErr found.nodes (λ r. IsLeast (IsEqualNode p r.place) r.earlier)
  pub arcs : IfOk found.arcs (IsForwardRanking p)
  pub arc_repeat : Arcs.IsFirstRepeatedArcIfAny p (repeat_place found.arcs)
  pub arc_earlier : IfErr found.arcs (λ r. IsLeast (SharesPoints p r.place) r.earlier)
  pub faced : AreFaced p found.faced.items

-- the repeats aren't before this place
pub record AreNotBefore (found : RecordFindings) (place : ℕ) : Type 0 where
  pub node : IsUpTo (repeat_place found.nodes) place
  pub arc : IsUpTo (repeat_place found.arcs) place
