use Rattle.std.proofs.Common.{◌≡◌, ◌∙◌, ◌<◌, ◌≤◌, ◌+◌, ◌⊎◌, inl, inr, ℕ, List, [], arith, length, length-set, get_or, subst}
use Rattle.std.proofs.lemmas.Bool.{cases_eq}
use Rattle.std.specs.Bool.{MatchBool}
use Rattle.edi_plan.specs.Plans.{IsPlace, others_of, record_at}
use Rattle.edi_plan.specs.declared.record.PlanEnd.{PlanEnd}
use Rattle.edi_rank.specs.EndOrder.{PutsInOrder}
use Rattle.edi_rank.specs.Pieces.{object_count}
use Rattle.edi_rank.proofs.OthersSorted.{held_set, earlier_or_few}
use Rattle.edi_rank.proofs.end_orders.all_orders.Goals as goal
use Rattle.edi_rank.proofs.end_orders.all_orders.Goals.{then-has_two_objects+in_ok-orders, else-has_two_objects}

pub loop-place-preserved : goal.loop-place-preserved
loop-place-preserved c =
    let p = c.args.plan.now in
    let number : ℕ → ℕ = λ j. get_or c.args.numbers.now j 0 in
    let loop = c.loop-place in
    let there : IsPlace p loop.place = omega (arith, c.loop-place-test.true, c.len-place-end.ensures) in
    elim c.if-has_two_objects.branch [
      | then-has_two_objects+in_ok-orders w ↦ rw w.orders-is (record {
        long = length-set loop.orders.items loop.place w.in_ok-orders.field-0 ∙ loop.invariant.long;
        so_far = λ k h seen. held_set (λ k order. PutsInOrder p number order (others_of (record_at p k))) loop.orders.items w.in_ok-orders.field-0 [] loop.place k (omega (arith, there, loop.invariant.long))
            (subst (PutsInOrder p number w.in_ok-orders.field-0) c.other_ends-others.ensures w.in_ok-orders.ensures) (λ other. loop.invariant.so_far k h (earlier_or_few loop.place k other seen));
      })
      | else-has_two_objects w ↦ rw w.orders-is (record {
        long = loop.invariant.long;
        so_far = λ k h seen. loop.invariant.so_far k h (go w.if-has_two_objects.false k seen (cases_eq k loop.place));
      })
    ]
  where
    go : c.has_two_objects.result ≡ Rattle.std.proofs.Common.false → (k : ℕ) → (k < c.loop-place.place + 1) ⊎ (object_count c.args.plan.now (others_of (record_at c.args.plan.now k)) ≤ 1)
        → (k ≡ c.loop-place.place) ⊎ (k ≡ c.loop-place.place → ⊥) → (k < c.loop-place.place) ⊎ (object_count c.args.plan.now (others_of (record_at c.args.plan.now k)) ≤ 1)
    go few k seen (inl e) = inr (subst (λ (j : ℕ). object_count c.args.plan.now (others_of (record_at c.args.plan.now j)) ≤ 1) (Rattle.std.proofs.Common.sym e)
        (subst (λ (ends : List PlanEnd). object_count c.args.plan.now ends ≤ 1) c.other_ends-others.ensures
        (subst (λ b. MatchBool b (1 < object_count c.args.plan.now c.other_ends-others.result.now) (object_count c.args.plan.now c.other_ends-others.result.now ≤ 1)) few c.has_two_objects.ensures)))
    go few k seen (inr other) = earlier_or_few c.loop-place.place k other seen
