use Rattle.std.proofs.Common.{filter, take}
use Rattle.edi_plan.specs.Extents.{IsExtentIfAny}
use Rattle.edi_picture.specs.Frames.{is_near}
use Rattle.edi_picture.specs.Sheets.{all_points}
use Rattle.edi_picture.proofs.frame.near_extent.Given as goal

abbrev pub invariant-loop-sheet : goal.invariant-loop-sheet
invariant-loop-sheet l = IsExtentIfAny (filter (is_near l.fn.arcs) (all_points (take l.sheet-index l.fn.sheets))) l.found
