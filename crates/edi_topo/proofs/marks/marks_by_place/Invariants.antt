use Rattle.edi_topo.specs.Marks.{AreMarksOf}
use Rattle.edi_topo.specs.inner.Placed.{IsPlaceOfMarkBelow}
use Rattle.edi_topo.proofs.marks.marks_by_place.Given as goal

abbrev pub invariant-loop-member : goal.invariant-loop-member
invariant-loop-member l = AreMarksOf l.fn.count (IsPlaceOfMarkBelow l.places l.marks l.member) l.by_place.items
