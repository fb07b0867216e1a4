use Rattle.std.proofs.Common.{map, string_bytes, take}
use Rattle.edi_deliveries.specs.inner.Paths.{FindsFirst}
use Rattle.edi_deliveries.proofs.found.first_names.Given as goal

abbrev pub invariant-loop-name : goal.invariant-loop-name
invariant-loop-name l = FindsFirst (map string_bytes (take l.name-index l.names)) l.first
