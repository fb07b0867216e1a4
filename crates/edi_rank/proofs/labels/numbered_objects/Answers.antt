use Rattle.std.proofs.Common.{◌≡◌, ◌≤◌, ◌∙◌, ℕ, List, sym, subst, ap, get_or}
use Rattle.std.proofs.lemmas.Result.{IfOk-weaker}
use Rattle.edi_plan.specs.Plans.{PlanData, IsPlace, record_at, others_of}
use Rattle.edi_rank.specs.EndOrder.{OthersInOrder}
use Rattle.edi_rank.specs.Laws.{TellsApart}
use Rattle.edi_rank.specs.inner.Layers.{IsFaceRanking}
use Rattle.edi_rank.specs.Pieces.{ObjectSource, object_count}
use Rattle.edi_topo.specs.Arcs.{IsForwardRanking}
use Rattle.edi_topo.specs.NodeKeys.{IsNodeRanking}
use Rattle.edi_rank.proofs.LowerNumbers.{lower_apart, objects_zero}
use Rattle.edi_rank.proofs.labels.numbered_objects.Goals as goal

-- the other ends of each record are in order where one of them at most is an object
abbrev LowerInOrder : PlanData → List ℕ → List (List ℕ) → Type 0
LowerInOrder q numbers orders = (k : ℕ) → IsPlace q k → object_count q (others_of (record_at q k)) ≤ 1 → OthersInOrder q (λ j. get_or numbers j 0) orders k

pub from_numbers-requires-clause-objects : goal.from_numbers-requires-clause-objects
from_numbers-requires-clause-objects c =
    let lower = c.in_ok-lower.lower in
    objects_zero c.plan-plan.result.now lower.nodes.now lower.arcs.now lower.faces c.in_ok-below_objects.below_objects.items c.in_ok-below_objects.ensures.ranked

pub from_numbers-requires-clause-orders : goal.from_numbers-requires-clause-orders
from_numbers-requires-clause-orders c =
    subst (λ numbers. LowerInOrder c.plan-plan.result.now numbers c.in_ok-orders.orders.items) c.deref-2.ensures.value c.in_ok-orders.ensures.orders

-- the layer is of the plan and these numbers
pub returns-clause-plan : goal.returns-clause-plan
returns-clause-plan c =
    let made : ObjectSource = record { plan = c.plan-plan.result.now; numbers = c.in_ok-below_objects.below_objects.items } in
    IfOk-weaker c.from_numbers.result (λ (l : ObjectSource). l ≡ made) (λ (l : ObjectSource). l.plan ≡ c.args.sound.now) (λ l e. ap (λ (k : ObjectSource). k.plan) e ∙ c.plan-plan.ensures.plan) c.from_numbers.ensures

pub returns-clause-apart : goal.returns-clause-apart
returns-clause-apart c =
    let p = c.plan-plan.result.now in
    let is = c.plan-plan.ensures.plan in
    let lower = c.in_ok-lower.lower in
    let below_objects = c.in_ok-below_objects.below_objects.items in
    let made : ObjectSource = record { plan = p; numbers = below_objects } in
    let apart : TellsApart p (λ k. get_or below_objects k 0) = lower_apart p lower.nodes.now lower.arcs.now lower.faces below_objects
    (subst (λ q. IsNodeRanking q lower.nodes.now) (sym is) c.in_ok-lower.ensures.nodes)
    (subst (λ q. IsForwardRanking q lower.arcs.now) (sym is) c.in_ok-lower.ensures.arcs)
    (subst (λ q. IsFaceRanking q lower.arcs.now lower.faces) (sym is) c.in_ok-lower.ensures.faces) c.in_ok-below_objects.ensures.ranked in
    IfOk-weaker c.from_numbers.result (λ (l : ObjectSource). l ≡ made) (λ (l : ObjectSource). TellsApart c.args.sound.now (λ k. get_or l.numbers k 0))
    (λ l e. subst (λ (m : ObjectSource). TellsApart c.args.sound.now (λ k. get_or m.numbers k 0)) (sym e) (subst (λ q. TellsApart q (λ k. get_or below_objects k 0)) is apart)) c.from_numbers.ensures
