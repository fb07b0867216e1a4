use Rattle.edi_matching.proofs.FreeLinks.{AreReachedSoFar}
use Rattle.edi_matching.proofs.links.reached_places.Given as goal

abbrev pub invariant-loop-target : goal.invariant-loop-target
invariant-loop-target l = AreReachedSoFar l.to l.count l.reached.items l.target-index
