use Rattle.std.proofs.Common.{◌≡◌, length, ◌+◌, ◌≤◌}
use Rattle.edi_line.specs.ZoneData.{entries}
use Rattle.edi_record.specs.Records.{values}
use Rattle.edi_record.proofs.group_rules.count_of.Given as goal

abbrev pub invariant-loop-left : goal.invariant-loop-left
invariant-loop-left l = record {
  counted : l.count + length (values l.fn.code (entries l.left)) ≡ length (values l.fn.code (entries l.fn.zones));
  room : l.count + length l.left ≤ length l.fn.zones;
}

abbrev pub decreases-loop-left : goal.decreases-loop-left
decreases-loop-left l = length l.left
