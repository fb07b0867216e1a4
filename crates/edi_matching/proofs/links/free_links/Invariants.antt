use Rattle.edi_matching.proofs.FreeLinks.{ListsSoFar}
use Rattle.edi_matching.proofs.links.free_links.Given as goal

abbrev pub invariant-loop-place : goal.invariant-loop-place
invariant-loop-place l = ListsSoFar l.other l.reached l.links.items l.place-index
