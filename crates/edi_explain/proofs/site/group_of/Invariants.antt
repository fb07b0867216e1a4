use Rattle.std.proofs.Common.{◌≡◌, length, slice_get}
use Rattle.edi_line.specs.ZoneData.{entries}
use Rattle.edi_line.specs.Zones.{groups_of}
use Rattle.edi_explain.proofs.site.group_of.Given as goal

abbrev pub invariant-loop-rest : goal.invariant-loop-rest
invariant-loop-rest l = slice_get (groups_of (entries l.fn.zones)) l.fn.place ≡ slice_get (groups_of (entries l.rest)) l.left

abbrev pub decreases-loop-rest : goal.decreases-loop-rest
decreases-loop-rest l = length l.rest
