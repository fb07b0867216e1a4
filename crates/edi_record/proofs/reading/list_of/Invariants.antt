use Rattle.std.proofs.Common.{◌≤◌, ◌-◌, length, drop}
use Rattle.edi_line.specs.ZoneData.{entries}
use Rattle.edi_record.proofs.ListRead.{SoFar}
use Rattle.edi_record.proofs.reading.list_of.Given as goal

abbrev pub invariant-loop-zone : goal.invariant-loop-zone
invariant-loop-zone l = record {
  within : l.at ≤ length l.zones;
  so_far : SoFar (entries l.fn.zones) (entries (drop l.at l.zones)) l.list;
}

abbrev pub decreases-loop-zone : goal.decreases-loop-zone
decreases-loop-zone l = length l.zones - l.at
