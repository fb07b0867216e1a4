use Rattle.std.proofs.Common.{◌≡◌, take}
use Rattle.edi_rank.specs.Pieces.{object_count}
use Rattle.edi_rank.proofs.end_orders.count_objects.Given as goal

abbrev pub invariant-loop-end : goal.invariant-loop-end
invariant-loop-end l = l.count ≡ object_count l.plan (take l.end-index l.ends)
