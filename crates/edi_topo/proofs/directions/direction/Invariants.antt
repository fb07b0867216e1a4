use Rattle.std.proofs.Common.{◌≡◌, ◌<◌, ℕ, reverse, get_or, Equal}
use Rattle.edi_record.specs.Orders.{point_cmp}
use Rattle.edi_topo.specs.NodeKeys.{no_point}
use Rattle.edi_topo.proofs.directions.direction.Given as goal

abbrev pub invariant-loop-i : goal.invariant-loop-i
invariant-loop-i l = (j : ℕ) → j < l.i → point_cmp (get_or l.points j no_point) (get_or (reverse l.points) j no_point) ≡ Equal
