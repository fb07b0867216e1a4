use Rattle.std.proofs.Common.{sym, subst}
use Rattle.edi_line.specs.Refusal.{IsUnbroken}
use Rattle.edi_plan.specs.Plans.{PlanData}
use Rattle.edi_topo.specs.TopologyRules.{BreaksTopologyRule}
use Rattle.edi_matching.proofs.Found.{AreNodesOf, AreArcsOf}
use Rattle.edi_matching.proofs.partners.Partners.of.Goals as goal

pub invariant_of-result : goal.invariant_of-result
invariant_of-result c = (
  (subst (λ (p : PlanData). IsUnbroken (BreaksTopologyRule p)) (sym c.plan.ensures.plan) c.plan.ensures.sound, subst (λ (p : PlanData). IsUnbroken (BreaksTopologyRule p)) (sym c.plan-2.ensures.plan) c.plan-2.ensures.sound),
  subst (λ (p : PlanData). AreNodesOf p c.in_ok-nodes.nodes.items) (sym c.plan-2.ensures.plan) c.in_ok-nodes.ensures.members,
  c.in_ok-nodes.ensures.sorted,
  subst (λ (p : PlanData). AreArcsOf p c.in_ok-arcs.arcs.items) (sym c.plan-2.ensures.plan) c.in_ok-arcs.ensures.members,
  c.in_ok-arcs.ensures.sorted,
)
