use Rattle.std.proofs.Common.{◌≡◌, length, false}
use Rattle.std.specs.List.{list_any}
use Rattle.edi_line.specs.ZoneData.{entries}
use Rattle.edi_record.specs.inner.Records.{zones_placed}
use Rattle.edi_record.specs.inner.RecordRules.{is_unknown_pointer}
use Rattle.edi_record.proofs.group_rules.has_unknown.Given as goal

abbrev pub invariant-loop-left : goal.invariant-loop-left
invariant-loop-left l = list_any (is_unknown_pointer l.fn.kind) (zones_placed false (entries l.fn.group))
    ≡ list_any (is_unknown_pointer l.fn.kind) (zones_placed l.is_open (entries l.left))

abbrev pub decreases-loop-left : goal.decreases-loop-left
decreases-loop-left l = length l.left
