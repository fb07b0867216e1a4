use Rattle.edi_plan.proofs.JoinedLemmas.{plans_joined}
use Rattle.edi_plan.proofs.laws.plans_are_joined.Goals as goal

pub returns : goal.returns
returns c = plans_joined
