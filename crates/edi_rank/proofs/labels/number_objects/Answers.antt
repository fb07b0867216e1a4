use Rattle.std.proofs.Common.{◌≡◌, ◌≢◌, ◌≤◌, ◌∙◌, ℕ, true, List, sym, subst, ap, get_or}
use Rattle.edi_line.proofs.EachElement.{each_weaker}
use Rattle.edi_record.specs.declared.record.Kind.TheVariants.{Fea}
use Rattle.edi_plan.specs.Places.{member_of}
use Rattle.edi_plan.specs.Plans.{PlanData, IsPlace, record_at, others_of, is_object}
use Rattle.edi_plan.specs.Whole.{IsWholePlan}
use Rattle.edi_plan.specs.declared.record.PlanEnd.{PlanEnd}
use Rattle.edi_rank.specs.EndOrder.{OthersInOrder, positions_at}
use Rattle.edi_rank.specs.Pieces.{ObjectSource, object_count}
use Rattle.edi_rank.specs.inner.Pieces.{IsObjectRanking}
use Rattle.edi_rank.proofs.OthersSorted.{Renumbered, in_order_still, no_object, rest_hold}
use Rattle.edi_rank.proofs.labels.number_objects.Goals as goal

-- the other ends of each record are in order where one of them at most is an object
abbrev LowerInOrder : PlanData → List ℕ → List (List ℕ) → Type 0
LowerInOrder q numbers orders = (k : ℕ) → IsPlace q k → object_count q (others_of (record_at q k)) ≤ 1 → OthersInOrder q (λ j. get_or numbers j 0) orders k

still : (q : PlanData) → IsWholePlan q → (one other : List ℕ) (orders : List (List ℕ)) → ((k : ℕ) → IsPlace q k → (record_at q k).kind ≢ Fea → get_or other k 0 ≡ get_or one k 0) → LowerInOrder q one orders → LowerInOrder q other orders
still q whole one other orders rest lower k h few = in_order_still q (λ j. get_or one j 0) (λ j. get_or other j 0) (positions_at orders k) (others_of (record_at q k)) few
    (each_weaker (λ (e : PlanEnd). IsPlace q e.target) (Renumbered q (λ j. get_or one j 0) (λ j. get_or other j 0)) (λ e there object. sym (rest e.target there (no_object (record_at q e.target).kind object)))
    (others_of (record_at q k)) (rest_hold (λ e. IsPlace q e.target) (record_at q k).ends (whole.there k h)))
    (lower k h few)

pub from_numbers-requires-clause-objects : goal.from_numbers-requires-clause-objects
from_numbers-requires-clause-objects c =
    subst (λ (q : PlanData). (k : ℕ) → IsPlace q k → is_object (record_at q k).kind ≡ true → get_or c.args.numbers.items k 0 ≡ 0) (sym c.plan-plan.ensures.plan) c.requires.objects

pub from_numbers-requires-clause-orders : goal.from_numbers-requires-clause-orders
from_numbers-requires-clause-orders c =
    subst (λ numbers. LowerInOrder c.plan-plan.result.now numbers c.in_ok-lower.lower.items) c.deref.ensures.value c.in_ok-lower.ensures.orders

pub all_orders-requires-clause-lower : goal.all_orders-requires-clause-lower
all_orders-requires-clause-lower c =
    let q = c.plan-plan.result.now in
    let numbers = c.args.numbers.items in
    let lower = c.into_parts-numbers.result.1.items in
    let same : c.into_parts-numbers.result.0.items ≡ numbers = c.into_parts-numbers.ensures.numbers ∙ ap (λ (l : ObjectSource). l.numbers) c.in_ok-layer.ensures in
    let here : LowerInOrder q numbers lower = subst (λ (l : ObjectSource). LowerInOrder l.plan l.numbers lower) c.in_ok-layer.ensures c.into_parts-numbers.ensures.orders in
    let others : (k : ℕ) → IsPlace q k → (record_at q k).kind ≢ Fea → get_or c.number_kind-numbers.result.items k 0 ≡ get_or numbers k 0 =
    subst (λ (ns : List ℕ). (k : ℕ) → IsPlace q k → (record_at q k).kind ≢ Fea → get_or c.number_kind-numbers.result.items k 0 ≡ get_or ns k 0) same c.number_kind-numbers.ensures.others in
    subst (λ ns. LowerInOrder q ns lower) (sym c.deref-2.ensures.value)
    (still q (subst IsWholePlan (sym c.plan-plan.ensures.plan) c.plan-plan.ensures.whole) numbers c.number_kind-numbers.result.items lower others here)

pub returns-clause-ranks : goal.returns-clause-ranks
returns-clause-ranks c =
    let numbers = c.args.numbers.items in
    subst (λ (p : PlanData). IsObjectRanking (record { plan = p; numbers = numbers }) c.in_ok-objects.objects) c.plan-plan.ensures.plan
    (subst (λ (l : ObjectSource). IsObjectRanking l c.in_ok-objects.objects) c.in_ok-layer.ensures c.in_ok-objects.ensures.ranks)

pub returns-clause-each : goal.returns-clause-each
returns-clause-each c = subst (λ (p : PlanData). (k : ℕ) → IsPlace p k → (record_at p k).kind ≡ Fea → get_or c.number_kind-numbers.result.items k 0 ≡ get_or c.in_ok-objects.objects (member_of p k) 0)
    c.plan-plan.ensures.plan c.number_kind-numbers.ensures.each

pub returns-clause-rest : goal.returns-clause-rest
returns-clause-rest c =
    let made = c.number_kind-numbers.result.items in
    let same : c.into_parts-numbers.result.0.items ≡ c.args.numbers.items = c.into_parts-numbers.ensures.numbers ∙ ap (λ (l : ObjectSource). l.numbers) c.in_ok-layer.ensures in
    subst (λ (p : PlanData). (k : ℕ) → IsPlace p k → (record_at p k).kind ≢ Fea → get_or made k 0 ≡ get_or c.args.numbers.items k 0) c.plan-plan.ensures.plan
    (subst (λ (ns : List ℕ). (k : ℕ) → IsPlace c.plan-plan.result.now k → (record_at c.plan-plan.result.now k).kind ≢ Fea → get_or made k 0 ≡ get_or ns k 0) same c.number_kind-numbers.ensures.others)

pub returns-clause-others : goal.returns-clause-others
returns-clause-others c = subst (λ (p : PlanData). (k : ℕ) → IsPlace p k → OthersInOrder p (λ j. get_or c.number_kind-numbers.result.items j 0) c.in_ok-others.others.items k) c.plan-plan.ensures.plan
    (subst (λ numbers. (k : ℕ) → IsPlace c.plan-plan.result.now k → OthersInOrder c.plan-plan.result.now (λ j. get_or numbers j 0) c.in_ok-others.others.items k) c.deref-2.ensures.value c.in_ok-others.ensures.orders)
