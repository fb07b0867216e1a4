use Rattle.std.proofs.Common.{◌≡◌, map, string_bytes, take}
use Rattle.edi_deliveries.specs.Deliveries.{thf_names}
use Rattle.edi_deliveries.proofs.thf.thf_names.Given as goal

abbrev pub invariant-loop-name : goal.invariant-loop-name
invariant-loop-name l = map (λ name. name.now) l.found.items ≡ thf_names (map string_bytes (take l.name-index l.names))
