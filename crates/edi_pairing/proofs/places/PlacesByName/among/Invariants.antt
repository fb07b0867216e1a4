use Rattle.std.proofs.Common.{◌≡◌, map, take}
use Rattle.edi_pairing.specs.inner.Places.{owned_name}
use Rattle.edi_pairing.proofs.places.PlacesByName.among.Given as goal

abbrev pub invariant-loop-name : goal.invariant-loop-name
invariant-loop-name l = map owned_name l.set.keys ≡ take l.name-index l.list
