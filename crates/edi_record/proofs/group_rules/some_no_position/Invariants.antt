use Rattle.std.proofs.Common.{◌≡◌, length, is_none}
use Rattle.std.specs.List.{list_any}
use Rattle.edi_line.specs.ZoneData.{entries}
use Rattle.edi_record.specs.Records.{values}
use Rattle.edi_record.specs.inner.Texts.{point_in}
use Rattle.edi_record.proofs.group_rules.some_no_position.Given as goal

abbrev pub invariant-loop-left : goal.invariant-loop-left
invariant-loop-left l = list_any (λ text. is_none (point_in text)) (values l.fn.code (entries l.fn.zones))
    ≡ list_any (λ text. is_none (point_in text)) (values l.fn.code (entries l.left))

abbrev pub decreases-loop-left : goal.decreases-loop-left
decreases-loop-left l = length l.left
