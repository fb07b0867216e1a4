use Rattle.edi_pairing.proofs.TextLemmas.{texts_unique}
use Rattle.edi_pairing.proofs.laws.pairing_texts_are_unique.Goals as goal

pub returns : goal.returns
returns c = texts_unique
