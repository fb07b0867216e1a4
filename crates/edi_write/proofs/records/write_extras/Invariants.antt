use Rattle.std.proofs.Common.{◌≡◌, ◌++◌, map, take}
use Rattle.edi_line.specs.Printing.{printed}
use Rattle.edi_record.specs.CanonicalZones.{extra_zone}
use Rattle.edi_write.proofs.records.write_extras.Given as goal

abbrev pub invariant-loop-extra : goal.invariant-loop-extra
invariant-loop-extra l = l.page.file.items ≡ l.fn.page.file.items ++ printed (map extra_zone (take l.extra-index l.extras))
