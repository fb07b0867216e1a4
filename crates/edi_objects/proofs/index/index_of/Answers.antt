use Rattle.std.proofs.Common.{◌∙◌, ◌++◌, ap, subst, List, ℕ, IsPermutation}
use Rattle.edi_schema.proofs.SortedLists.{sorted_is}
use Rattle.edi_objects.specs.LinksOf.{index_of, naming_cmp}
use Rattle.edi_objects.specs.inner.Indices.{all_named}
use Rattle.edi_objects.proofs.Indexed.{naming_exact, naming_total}
use Rattle.edi_objects.proofs.index.index_of.Goals as goal

pub returns : goal.returns
returns c = unfold index_of in
    sorted_is naming_cmp naming_total naming_exact (all_named c.args.plan.now) c.sort_unstable.new.self.items
    (subst (λ xs. IsPermutation xs c.sort_unstable.new.self.items)
    (c.in_ok-push_all_named.ensures ∙ ap (λ (xs : List (ℕ × ℕ)). xs ++ all_named c.args.plan.now) c.new-index.ensures.items) c.sort_unstable.ensures.permutation) c.sort_unstable.ensures.sorted
