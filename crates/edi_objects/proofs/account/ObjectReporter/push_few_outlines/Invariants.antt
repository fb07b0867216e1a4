use Rattle.std.proofs.Common.{◌≡◌, ◌++◌, map, take}
use Rattle.std.specs.List.{flat_map}
use Rattle.edi_objects.specs.Objects.{outline_line}
use Rattle.edi_objects.proofs.account.ObjectReporter.push_few_outlines.Given as goal

abbrev pub invariant-loop-end : goal.invariant-loop-end
invariant-loop-end l = l.lines.items ≡ l.initial.lines.items ++ flat_map (outline_line l.self.naming l.self.report) (map (λ e. e.target) (take l.end-index l.end-items))
