use Rattle.std.proofs.Common.{◌≡◌, ◌++◌, map, reverse, take}
use Rattle.edi_line.specs.Printing.{printed}
use Rattle.edi_record.specs.CanonicalZones.{point_zone}
use Rattle.edi_write.proofs.records.write_backward.Given as goal

abbrev pub invariant-loop-place : goal.invariant-loop-place
invariant-loop-place l = l.page.file.items ++ printed (map point_zone (reverse (take l.place l.points))) ≡ l.fn.page.file.items ++ printed (map point_zone (reverse l.points))
