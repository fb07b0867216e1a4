use Rattle.std.proofs.Common.{◌≡◌, ◌++◌, map, take}
use Rattle.edi_line.specs.Printing.{printed}
use Rattle.edi_record.specs.CanonicalZones.{point_zone}
use Rattle.edi_write.proofs.records.write_forward.Given as goal

abbrev pub invariant-loop-point : goal.invariant-loop-point
invariant-loop-point l = l.page.file.items ≡ l.fn.page.file.items ++ printed (map point_zone (take l.point-index l.points))
