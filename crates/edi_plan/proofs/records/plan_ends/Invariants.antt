use Rattle.std.proofs.Common.{◌++◌, List, drop}
use Rattle.edi_plan.specs.inner.Resolving.{AreGiven}
use Rattle.edi_plan.specs.declared.record.PlanEnd.{PlanEnd}
use Rattle.edi_plan.proofs.records.plan_ends.Given as goal

abbrev pub invariant-loop-place : goal.invariant-loop-place
invariant-loop-place l = (more : List PlanEnd) → AreGiven (drop l.place l.targets) (drop l.place l.ends) more → AreGiven l.targets l.ends (l.done.items ++ more)
