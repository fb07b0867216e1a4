use Rattle.std.proofs.Common.{◌≡◌, bytes_eq, drop, map}
use Rattle.std.specs.List.{list_any}
use Rattle.edi_objects.proofs.names.Namer.names_objects.Given as goal

abbrev pub invariant-loop-known : goal.invariant-loop-known
invariant-loop-known l = list_any (bytes_eq l.identifier) (map (λ i. i.now) (drop l.known-index l.known-items)) ≡ list_any (bytes_eq l.identifier) (map (λ i. i.now) l.known-items)
