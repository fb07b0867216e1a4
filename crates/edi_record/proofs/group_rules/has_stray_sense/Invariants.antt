use Rattle.std.proofs.Common.{◌≡◌, length, codes}
use Rattle.std.specs.List.{list_any, before_first}
use Rattle.edi_line.specs.ZoneData.{entries, has_code}
use Rattle.edi_record.specs.Records.{points_at}
use Rattle.edi_record.proofs.group_rules.has_stray_sense.Given as goal

abbrev pub invariant-loop-left : goal.invariant-loop-left
invariant-loop-left l = list_any (has_code (codes "SNS")) (before_first points_at (entries l.fn.group))
    ≡ list_any (has_code (codes "SNS")) (before_first points_at (entries l.left))

abbrev pub decreases-loop-left : goal.decreases-loop-left
decreases-loop-left l = length l.left
