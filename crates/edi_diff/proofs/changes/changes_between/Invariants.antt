use Rattle.edi_diff.specs.inner.Steps.{AreSteps}
use Rattle.edi_diff.proofs.changes.changes_between.Given as goal

abbrev pub invariant-loop-way : goal.invariant-loop-way
invariant-loop-way l = AreSteps l.plan l.other l.unchanged l.changes.to.items l.changes.turned.items l.changes.reached.items
