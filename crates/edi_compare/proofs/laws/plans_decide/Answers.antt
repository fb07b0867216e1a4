use Rattle.edi_compare.proofs.Compared.{verdict_on_files}
use Rattle.edi_compare.proofs.laws.plans_decide.Goals as goal

pub returns : goal.returns
returns c = λ s a b p q verdict states states'. verdict_on_files s a b p q states states' verdict
