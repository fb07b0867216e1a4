use Rattle.std.proofs.Common.{◌≡◌, ◌++◌, map, take}
use Rattle.std.specs.Prelude.{flat_map}
use Rattle.edi_line.specs.Printing.{printed}
use Rattle.edi_rank.specs.EndOrder.{ends_at}
use Rattle.edi_rank.specs.Keys.{numbered}
use Rattle.edi_rank.specs.Labelling.{number_of}
use Rattle.edi_write.specs.inner.Numbered.{numbered_end_zones}
use Rattle.edi_write.proofs.links.write_others.Given as goal

abbrev pub invariant-loop-index : goal.invariant-loop-index
invariant-loop-index l = l.page.file.items ≡ l.fn.page.file.items ++ printed (flat_map numbered_end_zones (map (numbered l.plan (number_of l.labels)) (take l.index (ends_at l.order l.others))))
