use Rattle.std.proofs.Common.{flat_map, take}
use Rattle.edi_json.specs.Listed.{first_listed}
use Rattle.edi_json.specs.Values.{listed_values}
use Rattle.edi_json.specs.inner.Lines.{HasLines}
use Rattle.edi_json.proofs.differences.push_firsts.Given as goal

abbrev pub invariant-loop-place : goal.invariant-loop-place
invariant-loop-place l = HasLines l.initial.text.items l.text.items (listed_values l.report (flat_map (first_listed l.report) (take l.place-index l.place-items)))
