use Rattle.edi_changes.proofs.OneList.{one_list}
use Rattle.edi_changes.proofs.laws.stated_lists_are_one.Goals as goal

pub returns : goal.returns
returns c = one_list
