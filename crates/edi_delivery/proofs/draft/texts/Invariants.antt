use Rattle.std.proofs.Common.{◌≡◌, map, take}
use Rattle.edi_line.specs.ZoneData.{entries}
use Rattle.edi_record.specs.Records.{values}
use Rattle.edi_delivery.proofs.draft.texts.Given as goal

abbrev pub invariant-loop-zone : goal.invariant-loop-zone
invariant-loop-zone l = map (λ t. t.now) l.texts.items ≡ values l.code (entries (take l.zone-index l.group))
