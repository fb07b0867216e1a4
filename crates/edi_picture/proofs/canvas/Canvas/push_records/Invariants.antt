use Rattle.std.proofs.Common.{◌≡◌, ◌++◌, take}
use Rattle.std.specs.List.{flat_map}
use Rattle.edi_picture.specs.Elements.{record_text}
use Rattle.edi_picture.proofs.canvas.Canvas.push_records.Given as goal

abbrev pub invariant-loop-place : goal.invariant-loop-place
invariant-loop-place l = l.text.items ≡ l.initial.text.items ++ flat_map (record_text l.kind l.self.schema.now l.self.frame l.ink l.sheet) (take l.place-index l.place-items)
