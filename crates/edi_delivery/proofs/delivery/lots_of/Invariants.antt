use Rattle.std.proofs.Common.{◌+◌, ◌≤◌, length}
use Rattle.edi_line.specs.ZoneData.{entries}
use Rattle.edi_delivery.specs.inner.Noted.{HasNoted}
use Rattle.edi_delivery.proofs.Read.{SoFar}
use Rattle.edi_delivery.proofs.delivery.lots_of.Given as goal

abbrev pub invariant-loop-rest : goal.invariant-loop-rest
invariant-loop-rest l = record {
  noted : HasNoted l.lots;
  so_far : SoFar (entries l.fn.zones) (entries l.rest) l.at l.lots.lots.items;
  fits : l.at + length l.rest ≤ length l.fn.zones;
}

abbrev pub decreases-loop-rest : goal.decreases-loop-rest
decreases-loop-rest l = length l.rest
