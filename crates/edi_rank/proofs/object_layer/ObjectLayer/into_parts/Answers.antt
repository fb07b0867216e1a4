use Rattle.std.proofs.Common.{◌≤◌, ℕ, subst, get_or}
use Rattle.edi_plan.specs.Plans.{IsPlace, record_at, others_of}
use Rattle.edi_rank.specs.EndOrder.{OthersInOrder}
use Rattle.edi_rank.specs.Pieces.{ObjectSource, object_count}
use Rattle.edi_rank.proofs.object_layer.ObjectLayer.into_parts.Goals as goal

pub returns-clause-orders : goal.returns-clause-orders
returns-clause-orders c =
    subst (λ (l : ObjectSource). (k : ℕ) → IsPlace l.plan k → object_count l.plan (others_of (record_at l.plan k)) ≤ 1 → OthersInOrder l.plan (λ j. get_or l.numbers j 0) c.self.inside.orders.items k)
    c.self.view_is c.self.invariant.6
