use Rattle.std.proofs.Common.{◌≡◌, map, take}
use Rattle.edi_write.specs.inner.Openings.{opening_of}
use Rattle.edi_write.proofs.labelled_plan.LabelledPlan.look_up.Given as goal

abbrev pub invariant-loop-place : goal.invariant-loop-place
invariant-loop-place l = l.openings.items ≡ map (opening_of l.self) (take l.place-index l.places)
