use Rattle.edi_matching.proofs.Totals.{total_is_pairing}
use Rattle.edi_matching.proofs.laws.total_is_pairing.Goals as goal

pub returns : goal.returns
returns c = total_is_pairing
