use Rattle.std.proofs.Common.{◌≡◌, ◌++◌, filter, flat_map, map, string_bytes, take}
use Rattle.edi_deliveries.specs.Deliveries.{is_unnamed, unnamed_line}
use Rattle.edi_deliveries.proofs.said.lines_on_unnamed.Given as goal

abbrev pub invariant-loop-name : goal.invariant-loop-name
invariant-loop-name l =
    l.lines.items ≡ flat_map (λ name. unnamed_line (l.before ++ name)) (filter (is_unnamed (map (λ other. other.now) l.found.keys)) (map string_bytes (take l.name-index l.names)))
