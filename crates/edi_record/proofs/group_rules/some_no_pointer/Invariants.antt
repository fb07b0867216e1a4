use Rattle.std.proofs.Common.{◌≡◌, length}
use Rattle.edi_line.specs.ZoneData.{entries}
use Rattle.edi_record.specs.Records.{values}
use Rattle.edi_record.specs.inner.RecordRules.{some_no_pointer}
use Rattle.edi_record.proofs.group_rules.some_no_pointer.Given as goal

abbrev pub invariant-loop-left : goal.invariant-loop-left
invariant-loop-left l = some_no_pointer (values l.fn.code (entries l.fn.zones)) ≡ some_no_pointer (values l.fn.code (entries l.left))

abbrev pub decreases-loop-left : goal.decreases-loop-left
decreases-loop-left l = length l.left
