use Rattle.edi_pairing.proofs.TextLemmas.{IsReadTo}
use Rattle.edi_pairing.proofs.reading.read_pairing.Given as goal

abbrev pub invariant-loop-place : goal.invariant-loop-place
invariant-loop-place l = IsReadTo l.first l.second l.file l.to.items l.turned.items l.text l.place
