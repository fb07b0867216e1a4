use Rattle.edi_matching.specs.declared.matching.Matching.{Matching}
use Rattle.edi_diff.specs.inner.Steps.{AreSteps}
use Rattle.edi_diff.proofs.changes.Changes.add_all.Given as goal

abbrev pub invariant-loop-proposal : goal.invariant-loop-proposal
invariant-loop-proposal l = (unchanged : Matching) → AreSteps l.plan l.other unchanged l.initial.self.to.items l.initial.self.turned.items l.initial.self.reached.items
    → AreSteps l.plan l.other unchanged l.self.to.items l.self.turned.items l.self.reached.items
