use Rattle.edi_diff.proofs.Carried.{rest_carried}
use Rattle.edi_diff.proofs.laws.rest_is_carried.Goals as goal

pub returns : goal.returns
returns c = rest_carried
