use Rattle.std.proofs.Common.{take}
use Rattle.edi_plan.specs.inner.Targets.{AreTargets}
use Rattle.edi_plan.proofs.targets.targets.Given as goal

abbrev pub invariant-loop-place : goal.invariant-loop-place
invariant-loop-place l = AreTargets l.records (take l.place l.records) l.targets.items
