use Rattle.std.proofs.Common.{◌≡◌, take}
use Rattle.std.specs.List.{flat_map}
use Rattle.edi_picture.specs.Legends.{far_names}
use Rattle.edi_picture.proofs.canvas.Canvas.far_names.Given as goal

abbrev pub invariant-loop-sheet : goal.invariant-loop-sheet
invariant-loop-sheet l = l.names.items ≡ flat_map (far_names l.self.schema.now l.self.frame) (take l.sheet-index l.sheets)
