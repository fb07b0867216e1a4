use Rattle.std.proofs.Common.{◌∙◌, ℕ, List, drop, leb, ltb, rules, subst}
use Rattle.std.specs.List.Sorted.{IsNonDecreasingBy}
use Rattle.std.proofs.lemmas.List.Sorted.{IsNonDecreasingBy-drop, IsPartitionPoint-from_clause, IsPartitionedBy-leb, IsPartitionedBy-ltb}
use Rattle.edi_objects.proofs.Runs.{run_is}
use Rattle.edi_objects.proofs.index.entries_of.Goals as goal

pub returns : goal.returns
returns c =
    let index = c.args.index.now in
    let place = c.args.place in
    let from = c.partition_point-from.result in
    let behind = c.split_at.result.1.now in
    let count = c.partition_point-count.result in
    let is = c.split_at.ensures.back in
    let rises : IsNonDecreasingBy (λ (x : ℕ × ℕ). x.0) behind = subst (λ (xs : List (ℕ × ℕ)). IsNonDecreasingBy (λ (x : ℕ × ℕ). x.0) xs) (Rattle.std.proofs.Common.sym is) (IsNonDecreasingBy-drop (λ (x : ℕ × ℕ). x.0) from index c.requires) in
    let low = IsPartitionPoint-from_clause (λ (x : ℕ × ℕ). ltb x.0 place) index from c.partition_point-from.ensures.partitioned
    (IsPartitionedBy-ltb (λ (x : ℕ × ℕ). x.0) index place c.requires) (λ a r f called. search rules) in
    let high = IsPartitionPoint-from_clause (λ (x : ℕ × ℕ). leb x.0 place) behind count c.partition_point-count.ensures.partitioned
    (IsPartitionedBy-leb (λ (x : ℕ × ℕ). x.0) behind place rises) (λ a r f called. search rules) in
    c.split_at-2.ensures.front ∙ run_is (λ (x : ℕ × ℕ). x.0) place index behind from count is c.partition_point-from.ensures.bound c.partition_point-count.ensures.bound low.0 low.1 high.0 high.1
