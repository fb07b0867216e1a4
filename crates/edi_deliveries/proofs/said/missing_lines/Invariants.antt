use Rattle.std.proofs.Common.{◌≡◌, ◌++◌, filter, flat_map, is_none, take}
use Rattle.edi_deliveries.specs.Deliveries.{found_name, missing_line}
use Rattle.edi_deliveries.proofs.said.missing_lines.Given as goal

abbrev pub invariant-loop-file : goal.invariant-loop-file
invariant-loop-file l =
    l.lines.items ≡ flat_map (λ file. missing_line (l.before ++ file)) (filter (λ file. is_none (found_name l.names file)) (take l.file-index l.file-items))
