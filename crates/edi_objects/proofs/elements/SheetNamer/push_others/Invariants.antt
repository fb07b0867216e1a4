use Rattle.std.proofs.Common.{◌≡◌, ◌++◌, map, take}
use Rattle.std.specs.List.{flat_map}
use Rattle.edi_objects.specs.Elements.{other_text}
use Rattle.edi_objects.proofs.elements.SheetNamer.push_others.Given as goal

abbrev pub invariant-loop-end : goal.invariant-loop-end
invariant-loop-end l = l.text.items ≡ l.initial.text.items ++ flat_map (other_text l.self.namer.now l.self.sheet.now l.place) (map (λ e. e.target) (take l.end-index l.end-items))
