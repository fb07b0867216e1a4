use Rattle.edi_objects.proofs.NothingHidden.{hides_nothing}
use Rattle.edi_objects.proofs.laws.nothing_is_hidden.Goals as goal

pub returns : goal.returns
returns c = hides_nothing
