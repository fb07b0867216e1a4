use Rattle.edi_compare.proofs.FormsDecide.{forms_decide}
use Rattle.edi_compare.proofs.laws.forms_decide_sameness.Goals as goal

pub returns : goal.returns
returns c = forms_decide
