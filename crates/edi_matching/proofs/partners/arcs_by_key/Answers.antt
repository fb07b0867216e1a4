use Rattle.std.proofs.Common.{subst, IfOk}
use Rattle.edi_plan.specs.Plans.{PlanData}
use Rattle.edi_matching.proofs.Found.{AreArcsOf}
use Rattle.edi_matching.proofs.partners.arcs_by_key.Goals as goal

pub returns-clause-members : goal.returns-clause-members
returns-clause-members c = subst (λ (q : PlanData). IfOk c.members_by_key.result (λ v. AreArcsOf q v.items)) c.in_ok-of.ensures c.members_by_key.ensures.permutation
