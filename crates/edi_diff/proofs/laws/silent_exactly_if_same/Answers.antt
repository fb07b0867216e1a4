use Rattle.edi_diff.proofs.SamePlans.{silent_if_same}
use Rattle.edi_diff.proofs.Silence.{same_if_silent}
use Rattle.edi_diff.proofs.laws.silent_exactly_if_same.Goals as goal

pub returns : goal.returns
returns c = λ n s a b form found accepted accepted' d. (same_if_silent n s a b form found accepted accepted' d, silent_if_same n s a b form found accepted accepted' d)
