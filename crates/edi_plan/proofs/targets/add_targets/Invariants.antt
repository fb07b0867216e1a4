use Rattle.std.proofs.Common.{◌++◌, List, take}
use Rattle.std.specs.List.{AllZip}
use Rattle.edi_record.specs.LinkEnds.{EndData}
use Rattle.edi_plan.specs.inner.Targets.{IsTargetIfAny}
use Rattle.edi_plan.proofs.targets.add_targets.Given as goal

abbrev pub invariant-loop-end : goal.invariant-loop-end
invariant-loop-end l = (before : List EndData) → AllZip (IsTargetIfAny l.records) before l.initial.targets.items
    → AllZip (IsTargetIfAny l.records) (before ++ take l.end-index l.ends) l.targets.items
