use Rattle.std.proofs.Common.{ℕ, sym, subst, arith, get_or}
use Rattle.edi_rank.specs.EndOrder.{PutsInOrder}
use Rattle.edi_rank.proofs.OthersSorted.{few_in_order}
use Rattle.edi_rank.proofs.end_orders.sorted_positions.Goals as goal

pub returns-then-ends-lt2 : goal.returns-then-ends-lt2
returns-then-ends-lt2 c =
    let number : ℕ → ℕ = λ k. get_or c.args.numbers.now k 0 in
    subst (λ positions. PutsInOrder c.args.plan.now number positions c.args.ends.now) (sym c.new.ensures)
    (few_in_order c.args.plan.now number c.args.ends.now (omega (arith, c.if-ends-lt2.true)))
