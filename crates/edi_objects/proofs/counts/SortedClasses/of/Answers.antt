use Rattle.std.proofs.Common.{ℕ, eqb, nat_cmp, sym}
use Rattle.std.proofs.lemmas.Cmp.{nat_cmp_total}
use Rattle.std.proofs.lemmas.Map.Keys.{le_from_not_gt}
use Rattle.edi_schema.proofs.SortedLists.{counts_from_permutation, never_falls_from_sorted}
use Rattle.edi_objects.proofs.Runs.{never_falls_by}
use Rattle.edi_objects.proofs.counts.SortedClasses.of.Goals as goal

pub invariant_of-result : goal.invariant_of-result
invariant_of-result c =
    let sorted = c.sort_unstable.new.self.items in
    never_falls_by nat_cmp (λ (x : ℕ). x) (λ x y h. le_from_not_gt x y h) sorted (never_falls_from_sorted nat_cmp nat_cmp_total sorted c.sort_unstable.ensures.sorted)

pub returns : goal.returns
returns c class = sym (counts_from_permutation c.args.list.items c.sort_unstable.new.self.items c.sort_unstable.ensures.permutation (λ (k : ℕ). eqb k class))
