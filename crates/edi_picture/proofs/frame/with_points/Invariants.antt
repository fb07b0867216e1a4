use Rattle.std.proofs.Common.{List, ◌++◌, take}
use Rattle.edi_record.specs.declared.record.Point.{Point}
use Rattle.edi_plan.specs.Extents.{IsExtentIfAny}
use Rattle.edi_picture.proofs.frame.with_points.Given as goal

abbrev pub invariant-loop-point : goal.invariant-loop-point
invariant-loop-point l = (before : List Point) → IsExtentIfAny before l.fn.found → IsExtentIfAny (before ++ take l.point-index l.fn.points) l.found
