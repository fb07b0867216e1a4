use Rattle.std.proofs.Common.{◌∙◌, ap, subst, IsPermutation, IsSorted, map}
use Rattle.std.specs.List.{slice_index}
use Rattle.edi_schema.proofs.SortedLists.{sorted_is}
use Rattle.edi_rank.specs.Keys.{end_cmp, numbered}
use Rattle.edi_rank.proofs.KeyOrders.{end_order}
use Rattle.edi_rank.proofs.Orders.{end_exact, end_total}
use Rattle.edi_rank.proofs.OthersSorted.{take_whole}
use Rattle.edi_matching.proofs.links.sorted_others.Goals as goal

pub returns : goal.returns
returns c =
    let key = numbered c.args.plan.now (slice_index c.args.targets.now) in
    let sorted = c.sort_unstable.new.self.items in
    let all = c.loop-end.invariant ∙ ap (map key) (take_whole c.args.ends.now c.loop-end.end-index c.loop-end-test.false) in
    sorted_is end_cmp end_total end_exact (map key c.args.ends.now) sorted
    (subst (λ xs. IsPermutation xs sorted) all c.sort_unstable.ensures.permutation)
    (subst (λ cmp. IsSorted cmp sorted) (λ i a b. end_order a b i) c.sort_unstable.ensures.sorted)
