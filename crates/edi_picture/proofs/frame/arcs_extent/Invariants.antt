use Rattle.std.proofs.Common.{take}
use Rattle.edi_plan.specs.Extents.{IsExtentIfAny}
use Rattle.edi_picture.specs.Sheets.{arc_points}
use Rattle.edi_picture.proofs.frame.arcs_extent.Given as goal

abbrev pub invariant-loop-sheet : goal.invariant-loop-sheet
invariant-loop-sheet l = IsExtentIfAny (arc_points (take l.sheet-index l.fn.sheets)) l.found
