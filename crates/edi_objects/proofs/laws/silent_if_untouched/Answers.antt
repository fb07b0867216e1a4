use Rattle.edi_objects.proofs.NothingHidden.{silent, untouched_silent}
use Rattle.edi_objects.proofs.laws.silent_if_untouched.Goals as goal

pub returns : goal.returns
returns c = λ n r i sound place is. (silent n r sound i place is, λ found. untouched_silent n r sound i place found.0 found.1 found.2)
