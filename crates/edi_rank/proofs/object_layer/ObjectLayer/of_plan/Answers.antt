use Rattle.std.proofs.Common.{◌≡◌, ◌≤◌, ◌∙◌, ℕ, subst, ap, map, get_or}
use Rattle.std.proofs.lemmas.Result.{IfOk-weaker}
use Rattle.edi_plan.specs.Places.{places_of}
use Rattle.edi_plan.specs.Plans.{IsPlace, record_at, others_of}
use Rattle.edi_record.specs.declared.record.Kind.TheVariants.{Fea}
use Rattle.edi_rank.specs.EndOrder.{OthersInOrder}
use Rattle.edi_rank.specs.Layers.{object_keys, ranked}
use Rattle.edi_rank.specs.Pieces.{ObjectSource, object_count, object_key_at}
use Rattle.edi_rank.proofs.KeysCarried.{object_keys_alike}
use Rattle.edi_rank.proofs.object_layer.ObjectLayer.of_plan.Goals as goal

pub from_numbers-requires-clause-orders : goal.from_numbers-requires-clause-orders
from_numbers-requires-clause-orders c =
    let p = c.args.plan.now in
    subst (λ numbers. (k : ℕ) → IsPlace p k → object_count p (others_of (record_at p k)) ≤ 1
    → OthersInOrder p (λ j. get_or numbers j 0) c.in_ok-orders.orders.items k) c.deref.ensures.value c.in_ok-orders.ensures.orders

pub returns-clause-keys : goal.returns-clause-keys
returns-clause-keys c =
    let p = c.args.plan.now in
    let nodes = c.args.nodes.now in
    let arcs = c.args.arcs.now in
    let faces = c.args.faces.now in
    let numbers = c.in_ok-numbers.numbers.items in
    let source : ObjectSource = record { plan = p; numbers = numbers } in
    let keys : map (object_key_at source) (places_of Fea p) ≡ object_keys p nodes arcs faces = object_keys_alike p c.keeps.ensures.whole c.keeps.ensures.joined (ranked p nodes arcs faces) (λ k. get_or numbers k 0) c.in_ok-numbers.ensures.ranked in
    IfOk-weaker c.from_numbers.result (λ layer. layer ≡ source) (λ layer. map (object_key_at layer) (places_of Fea p) ≡ object_keys p nodes arcs faces)
    (λ layer e. ap (λ (l : ObjectSource). map (object_key_at l) (places_of Fea p)) e ∙ keys) c.from_numbers.ensures
