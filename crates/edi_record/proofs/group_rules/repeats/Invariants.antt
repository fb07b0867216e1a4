use Rattle.std.proofs.Common.{◌≡◌, length}
use Rattle.edi_line.specs.ZoneData.{entries, has_code}
use Rattle.edi_record.specs.inner.GroupRules.{closes_by, repeats_from}
use Rattle.edi_record.specs.inner.RecordRules.{repeats_code}
use Rattle.edi_record.proofs.group_rules.repeats.Given as goal

abbrev pub invariant-loop-left : goal.invariant-loop-left
invariant-loop-left l = repeats_code (has_code l.fn.opens) (closes_by l.fn.opens l.fn.closes) l.fn.code (entries l.fn.zones)
    ≡ repeats_from l.stretch l.fn.opens l.fn.closes l.fn.code (entries l.left)

abbrev pub decreases-loop-left : goal.decreases-loop-left
decreases-loop-left l = length l.left
