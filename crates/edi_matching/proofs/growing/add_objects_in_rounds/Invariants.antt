use Rattle.edi_matching.specs.inner.Additions.{AddsPairs, AreAlike}
use Rattle.edi_matching.proofs.growing.add_objects_in_rounds.Given as goal

abbrev pub invariant-loop : goal.invariant-loop
invariant-loop l = AddsPairs (AreAlike l.first.plan.now l.second.plan.now) l.initial.to l.initial.taken l.to l.taken
