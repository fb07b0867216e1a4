use Rattle.std.proofs.Common.{List, ◌++◌, take}
use Rattle.edi_record.specs.declared.record.Point.{Point}
use Rattle.edi_plan.specs.Extents.{IsExtentIfAny}
use Rattle.std.specs.List.{flat_map}
use Rattle.edi_plan.specs.Plans.{record_at}
use Rattle.edi_picture.proofs.frame.with_arcs.Given as goal

abbrev pub invariant-loop-place : goal.invariant-loop-place
invariant-loop-place l = (before : List Point) → IsExtentIfAny before l.fn.found → IsExtentIfAny (before ++ flat_map (λ k. (record_at l.fn.plan k).points) (take l.place-index l.place-items)) l.found
