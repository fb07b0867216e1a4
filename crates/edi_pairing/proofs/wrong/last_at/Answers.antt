use Rattle.edi_pairing.proofs.WrongLemmas.{no_end_last}
use Rattle.edi_pairing.proofs.wrong.last_at.Goals as goal

pub returns-in-None : goal.returns-in-None
returns-in-None c = no_end_last c.args.text.now c.in-Some.field.now c.in-Some.end.now c.in-Some.ensures c.in-None.ensures
