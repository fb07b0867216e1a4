use Rattle.std.proofs.Common.{List, ◌++◌, take}
use Rattle.std.specs.List.{flat_map}
use Rattle.edi_record.specs.declared.record.Point.{Point}
use Rattle.edi_plan.specs.Extents.{IsExtentIfAny}
use Rattle.edi_plan.proofs.extent.extent_with.Given as goal

abbrev pub invariant-loop-place : goal.invariant-loop-place
invariant-loop-place l = (before : List Point) → IsExtentIfAny before l.fn.found → IsExtentIfAny (before ++ flat_map (λ r. r.points) (take l.place l.fn.plan.list)) l.found
