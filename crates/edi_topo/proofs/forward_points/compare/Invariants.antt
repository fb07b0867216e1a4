use Rattle.std.proofs.Common.{◌≡◌, ◌<◌, ℕ, get_or, Equal}
use Rattle.edi_record.specs.Orders.{point_cmp}
use Rattle.edi_topo.specs.NodeKeys.{no_point}
use Rattle.edi_topo.proofs.forward_points.compare.Given as goal

abbrev pub invariant-loop-i : goal.invariant-loop-i
invariant-loop-i l = (j : ℕ) → j < l.i → point_cmp (get_or l.a j no_point) (get_or l.b j no_point) ≡ Equal
