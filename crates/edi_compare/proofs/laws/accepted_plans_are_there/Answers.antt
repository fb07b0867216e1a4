use Rattle.edi_compare.proofs.FormsThere.{accepted_plan}
use Rattle.edi_compare.proofs.laws.accepted_plans_are_there.Goals as goal

pub returns : goal.returns
returns c = accepted_plan
