use Rattle.std.proofs.Common.{rules}
use Rattle.std.proofs.lemmas.Fn.{always_returns_same}
use Rattle.std.proofs.lemmas.List.Sorted.{IsPermutation-map}
use Rattle.edi_schema.specs.inner.Drafts.{drafted}
use Rattle.edi_schema.proofs.InOrder.{sorted_rises, still_distinct}
use Rattle.edi_schema.proofs.sorting.sorted_by_name.Goals as goal

pub returns-clause-permutation : goal.returns-clause-permutation
returns-clause-permutation c = IsPermutation-map drafted c.args.drafts.items c.sort_unstable_by_key.new.self.items c.sort_unstable_by_key.ensures.permutation

pub returns-clause-rises : goal.returns-clause-rises
returns-clause-rises c =
    sorted_rises c.sort_unstable_by_key.new.self.items
    (c.sort_unstable_by_key.ensures.sorted (λ d. d.title) (always_returns_same _ _ _ (λ a r q k. (search rules, search rules))))
    (still_distinct c.args.drafts.items c.sort_unstable_by_key.new.self.items c.sort_unstable_by_key.ensures.permutation c.requires)
