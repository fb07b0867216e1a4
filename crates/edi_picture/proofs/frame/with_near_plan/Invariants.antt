use Rattle.std.proofs.Common.{List, ◌++◌, filter, take}
use Rattle.edi_record.specs.declared.record.Point.{Point}
use Rattle.edi_plan.specs.Extents.{IsExtentIfAny}
use Rattle.edi_picture.specs.Frames.{is_near}
use Rattle.std.specs.List.{flat_map}
use Rattle.edi_picture.proofs.frame.with_near_plan.Given as goal

abbrev pub invariant-loop-place : goal.invariant-loop-place
invariant-loop-place l = (before : List Point) → IsExtentIfAny before l.fn.found → IsExtentIfAny (before ++ filter (is_near l.fn.arcs) (flat_map (λ r. r.points) (take l.place l.fn.plan.list))) l.found
