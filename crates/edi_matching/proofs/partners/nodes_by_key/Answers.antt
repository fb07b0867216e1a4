use Rattle.std.proofs.Common.{subst, IfOk, IsSorted, Ordering, nat_cmp}
use Rattle.std.specs.Ordering.{ordering_then}
use Rattle.edi_plan.specs.Plans.{PlanData}
use Rattle.edi_topo.specs.declared.node_key.NodeKey.{NodeKey}
use Rattle.edi_matching.proofs.Found.{AreNodesOf, node_orders}
use Rattle.edi_matching.proofs.partners.nodes_by_key.Goals as goal

pub returns-clause-members : goal.returns-clause-members
returns-clause-members c = subst (λ (q : PlanData). IfOk c.members_by_key.result (λ v. AreNodesOf q v.items)) c.in_ok-of.ensures c.members_by_key.ensures.permutation

pub returns-clause-sorted : goal.returns-clause-sorted
returns-clause-sorted c = subst (λ (cmp : NodeKey → NodeKey → Ordering). IfOk c.members_by_key.result (λ v. IsSorted (λ x y. ordering_then (cmp x.0 y.0) (nat_cmp x.1 y.1)) v.items)) node_orders c.members_by_key.ensures.sorted
