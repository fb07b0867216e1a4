use Rattle.std.proofs.Common.{◌≡◌, ◌++◌, filter, take}
use Rattle.std.specs.List.{flat_map}
use Rattle.edi_picture.specs.Legends.{far_name, is_far}
use Rattle.edi_picture.proofs.canvas.Canvas.push_far_names.Given as goal

abbrev pub invariant-loop-place : goal.invariant-loop-place
invariant-loop-place l = l.names.items ≡ l.initial.names.items ++ flat_map (far_name l.self.schema.now l.sheet) (filter (is_far l.self.frame l.sheet) (take l.place-index l.place-items))
