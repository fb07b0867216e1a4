use Rattle.edi_matching.proofs.FacesAdded.{AreFacesAdded}
use Rattle.edi_matching.proofs.record.Proposed.with_faces.Given as goal

abbrev pub invariant-loop-arc : goal.invariant-loop-arc
invariant-loop-arc l = AreFacesAdded l.role l.self l.initial.reached.items l.to.items l.reached.items l.arc-index
