use Rattle.edi_matching.specs.inner.Additions.{AddsPairs, AreAlikeBeside}
use Rattle.edi_matching.proofs.added.add_faces.Given as goal

abbrev pub invariant-loop-arc : goal.invariant-loop-arc
invariant-loop-arc l = AddsPairs (AreAlikeBeside l.first.plan.now l.other (record { to = l.to; turned = l.turned })) l.initial.to l.initial.taken l.to l.taken
