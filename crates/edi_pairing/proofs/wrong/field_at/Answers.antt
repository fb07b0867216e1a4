use Rattle.edi_pairing.proofs.WrongLemmas.{no_field}
use Rattle.edi_pairing.proofs.wrong.field_at.Goals as goal

pub returns-in-None : goal.returns-in-None
returns-in-None c = no_field c.args.text.now c.in-Some.field.now c.in-Some.end.now c.in-Some.ensures c.in-None.ensures
