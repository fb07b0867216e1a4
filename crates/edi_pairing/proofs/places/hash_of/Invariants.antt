use Rattle.std.proofs.Common.{map, take}
use Rattle.edi_hash.specs.Keys.{Holds}
use Rattle.edi_pairing.proofs.places.hash_of.Given as goal

abbrev pub invariant-loop-name : goal.invariant-loop-name
invariant-loop-name l = Holds l.parts (map (λ n. n.rid) (take l.name-index l.names))
