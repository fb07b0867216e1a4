use Rattle.std.proofs.Common.{◌≡◌, ◌<◌, ◌≤◌, ◌⊎◌, ℕ, length, get_or}
use Rattle.edi_plan.specs.Plans.{IsPlace, others_of, record_at}
use Rattle.edi_rank.specs.EndOrder.{OthersInOrder}
use Rattle.edi_rank.specs.Pieces.{object_count}
use Rattle.edi_rank.proofs.end_orders.all_orders.Given as goal

abbrev pub invariant-loop-place : goal.invariant-loop-place
invariant-loop-place l = record {
  long : length l.orders.items ≡ length l.plan.list;
  so_far : (k : ℕ) → IsPlace l.plan k → (k < l.place) ⊎ (object_count l.plan (others_of (record_at l.plan k)) ≤ 1) → OthersInOrder l.plan (λ j. get_or l.numbers j 0) l.orders.items k;
}
