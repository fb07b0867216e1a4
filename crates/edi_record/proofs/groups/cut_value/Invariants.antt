use Rattle.std.proofs.Common.{◌≡◌, length}
use Rattle.edi_line.specs.ZoneData.{entries}
use Rattle.edi_record.specs.Records.{values}
use Rattle.edi_record.proofs.groups.cut_value.Given as goal

abbrev pub invariant-loop-rest : goal.invariant-loop-rest
invariant-loop-rest l = values l.fn.code (entries l.fn.zones) ≡ values l.fn.code (entries l.rest)

abbrev pub decreases-loop-rest : goal.decreases-loop-rest
decreases-loop-rest l = length l.rest
