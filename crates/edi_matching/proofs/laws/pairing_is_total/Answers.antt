use Rattle.edi_matching.proofs.Totals.{pairing_is_total}
use Rattle.edi_matching.proofs.laws.pairing_is_total.Goals as goal

pub returns : goal.returns
returns c = pairing_is_total
