use Rattle.edi_plan.proofs.PlansThere.{plan_there}
use Rattle.edi_plan.proofs.laws.plans_are_there.Goals as goal

pub returns : goal.returns
returns c = plan_there
