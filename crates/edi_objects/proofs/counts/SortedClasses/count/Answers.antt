use Rattle.std.proofs.Common.{◌∙◌, ℕ, List, ap, eqb, leb, length, ltb, rules, subst, sym}
use Rattle.std.specs.List.Sorted.{IsNonDecreasingBy}
use Rattle.std.proofs.lemmas.List.{length-take-le}
use Rattle.std.proofs.lemmas.List.Sorted.{IsNonDecreasingBy-drop, IsPartitionPoint-from_clause, IsPartitionedBy-leb, IsPartitionedBy-ltb}
use Rattle.std.proofs.lemmas.List.Sums.{length-filter}
use Rattle.edi_objects.specs.Counts.{class_count}
use Rattle.edi_objects.proofs.Runs.{run_is}
use Rattle.edi_objects.proofs.counts.SortedClasses.count.Goals as goal

pub returns : goal.returns
returns c =
    let id : ℕ → ℕ = λ x. x in
    let class = c.args.class in
    let classes = c.as_slice-classes.result.now in
    let from = c.partition_point-from.result in
    let behind = c.split_at.result.1.now in
    let count = c.partition_point.result in
    let is = c.split_at.ensures.back in
    let value = c.as_slice-classes.ensures.value in
    let up : IsNonDecreasingBy id classes = subst (λ (xs : List ℕ). IsNonDecreasingBy id xs) (sym value) c.self.invariant in
    let up_behind : IsNonDecreasingBy id behind = subst (λ (xs : List ℕ). IsNonDecreasingBy id xs) (sym is) (IsNonDecreasingBy-drop id from classes up) in
    let low = IsPartitionPoint-from_clause (λ (x : ℕ). ltb x class) classes from c.partition_point-from.ensures.partitioned
    (IsPartitionedBy-ltb id classes class up) (λ a r f called. search rules) in
    let high = IsPartitionPoint-from_clause (λ (x : ℕ). leb x class) behind count c.partition_point.ensures.partitioned
    (IsPartitionedBy-leb id behind class up_behind) (λ a r f called. search rules) in
    let run = run_is id class classes behind from count is c.partition_point-from.ensures.bound c.partition_point.ensures.bound low.0 low.1 high.0 high.1 in
    sym (length-take-le count behind c.partition_point.ensures.bound)
    ∙ (ap (λ (xs : List ℕ). length xs) run ∙ (length-filter (λ (x : ℕ). eqb x class) classes ∙ ap (class_count class) (value ∙ c.self.view_is)))
