use Rattle.std.proofs.Common.{◌∙◌, ◌≤◌, ℕ, List, [], ap, arith, length, get_or, subst}
use Rattle.std.proofs.lemmas.List.{length_push}
use Rattle.edi_plan.specs.Plans.{others_of, record_at}
use Rattle.edi_plan.specs.declared.record.PlanEnd.{PlanEnd}
use Rattle.edi_rank.specs.EndOrder.{PutsInOrder}
use Rattle.edi_rank.specs.Pieces.{object_count}
use Rattle.edi_rank.proofs.OthersSorted.{held_more}
use Rattle.edi_rank.proofs.end_orders.lower_orders.Goals as goal

pub loop-place-preserved : goal.loop-place-preserved
loop-place-preserved c =
    let p = c.args.plan.now in
    let number : ℕ → ℕ = λ j. get_or c.args.numbers.now j 0 in
    let loop = c.loop-place in
    record {
      long = ap length c.in_ok-push.ensures.items ∙ (length_push loop.orders.items c.in_ok-order.order ∙ (let long = loop.invariant.long in omega (arith, long)));
      so_far = held_more (λ k order. object_count p (others_of (record_at p k)) ≤ 1 → PutsInOrder p number order (others_of (record_at p k))) loop.orders.items c.push.new.self.items c.in_ok-order.order [] loop.place
          c.in_ok-push.ensures.items loop.invariant.long loop.invariant.so_far
          (subst (λ (ends : List PlanEnd). object_count p ends ≤ 1 → PutsInOrder p number c.in_ok-order.order ends) c.other_ends.ensures c.in_ok-order.ensures);
    }
