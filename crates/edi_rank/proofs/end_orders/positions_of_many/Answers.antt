use Rattle.std.proofs.Common.{◌∙◌, ℕ, sym, subst, ap, arith, map, get_or, IsPermutation}
use Rattle.edi_rank.specs.EndOrder.{PutsInOrder}
use Rattle.edi_rank.proofs.OthersSorted.{pairs_in_order}
use Rattle.edi_rank.proofs.end_orders.positions_of_many.Goals as goal

pub returns : goal.returns
returns c =
    let p = c.args.plan.now in
    let number : ℕ → ℕ = λ k. get_or c.args.numbers.now k 0 in
    let ends = c.args.ends.now in
    let pairs = c.sort_unstable.new.self.items in
    subst (λ positions. PutsInOrder p number positions ends) (sym (c.in_ok-order.ensures ∙ (c.in_ok-positions.ensures ∙ ap (map (λ pair. pair.1)) c.deref.ensures.value)))
    (pairs_in_order p number ends pairs (omega (arith, c.requires.many))
    (subst (λ xs. IsPermutation xs pairs) c.in_ok-pairs.ensures c.sort_unstable.ensures.permutation) c.sort_unstable.ensures.sorted)
