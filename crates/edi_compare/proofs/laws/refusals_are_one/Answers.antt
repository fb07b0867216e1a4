use Rattle.edi_compare.proofs.OneRefusal.{no_refusal, one_refusal}
use Rattle.edi_compare.proofs.laws.refusals_are_one.Goals as goal

pub returns-clause-one : goal.returns-clause-one
returns-clause-one c = one_refusal

pub returns-clause-none : goal.returns-clause-none
returns-clause-none c = no_refusal
