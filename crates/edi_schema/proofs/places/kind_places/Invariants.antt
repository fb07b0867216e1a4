use Rattle.std.proofs.Common.{map, take}
use Rattle.edi_schema.specs.inner.Drafts.{drafted}
use Rattle.edi_schema.specs.inner.Places.{AreNoted}
use Rattle.edi_schema.proofs.places.kind_places.Given as goal

abbrev pub invariant-loop-place : goal.invariant-loop-place
invariant-loop-place l = AreNoted (map drafted (take l.place l.classes)) l.places
