use Rattle.edi_delivery.proofs.OneAnswer.{delivery_one, refused_none, refusal_one}
use Rattle.edi_delivery.proofs.laws.deliveries_are_one.Goals as goal

pub returns-clause-delivery : goal.returns-clause-delivery
returns-clause-delivery c = delivery_one

pub returns-clause-none : goal.returns-clause-none
returns-clause-none c = refused_none

pub returns-clause-refusal : goal.returns-clause-refusal
returns-clause-refusal c = refusal_one
