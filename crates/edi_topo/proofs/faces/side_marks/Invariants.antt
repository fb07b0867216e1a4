use Rattle.edi_topo.specs.inner.Faces.{AreFacedBelow}
use Rattle.edi_topo.proofs.faces.side_marks.Given as goal

abbrev pub invariant-loop-place : goal.invariant-loop-place
invariant-loop-place l = AreFacedBelow l.plan l.place l.faced.items
