use Rattle.edi_matching.proofs.LinksAdded.{AreLinksAdded}
use Rattle.edi_matching.proofs.record.Proposed.with_links.Given as goal

abbrev pub invariant-loop-place : goal.invariant-loop-place
invariant-loop-place l = AreLinksAdded l.self l.initial.reached.items l.to.items l.reached.items l.place-index
