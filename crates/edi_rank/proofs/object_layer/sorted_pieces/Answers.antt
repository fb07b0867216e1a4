use Rattle.std.proofs.Common.{◌≡◌, ◌∙◌, ◌≤◌, ◌++◌, ℕ, arith, length, sym, subst, IsPermutation, IsSorted, map, get_or}
use Rattle.edi_plan.specs.Plans.{record_at}
use Rattle.edi_schema.proofs.SortedLists.{sorted_is}
use Rattle.std.proofs.lemmas.List.{append-nil, at_drop_all}
use Rattle.edi_rank.specs.Keys.{link_key, link_key_cmp}
use Rattle.edi_rank.proofs.KeyOrders.{link_order}
use Rattle.edi_rank.proofs.Orders.{link_key_total, link_key_exact}
use Rattle.edi_rank.proofs.object_layer.sorted_pieces.Goals as goal

pub returns : goal.returns
returns c =
    let f = λ (k : ℕ). link_key c.args.plan.now (λ j. get_or c.args.numbers.now j 0) (record_at c.args.plan.now k) in
    let links = c.args.links.now in
    let keys = c.loop-link.keys.items in
    let past : length links ≤ c.loop-link.link-index = omega arith in
    let made : keys ≡ map f links =
    sym (append-nil keys) ∙ (sym (at_drop_all (λ xs. keys ++ map f xs) links c.loop-link.link-index past) ∙ c.loop-link.invariant)
    in
    sorted_is link_key_cmp link_key_total link_key_exact (map f links) c.sort_unstable.new.self.items
    (subst (λ xs. IsPermutation xs c.sort_unstable.new.self.items) made c.sort_unstable.ensures.permutation)
    (subst (λ cmp. IsSorted cmp c.sort_unstable.new.self.items) (λ i a b. link_order a b i) c.sort_unstable.ensures.sorted)
