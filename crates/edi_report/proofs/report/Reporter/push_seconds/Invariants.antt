use Rattle.std.proofs.Common.{◌≡◌, ◌++◌, take}
use Rattle.std.specs.List.{flat_map}
use Rattle.edi_report.specs.Lines.{second_line}
use Rattle.edi_report.proofs.report.Reporter.push_seconds.Given as goal

abbrev pub invariant-loop-place : goal.invariant-loop-place
invariant-loop-place l = l.text.items ≡ l.initial.text.items ++ flat_map (second_line l.self) (take l.place-index l.place-items)
