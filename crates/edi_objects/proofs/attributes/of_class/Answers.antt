use Rattle.std.proofs.Common.{◌∙◌, List, ap, eqb, leb, ltb, map, rules, subst, sym, Bor}
use Rattle.std.specs.List.Sorted.{IsNonDecreasingBy}
use Rattle.std.proofs.lemmas.List.Sorted.{IsNonDecreasingBy-drop, IsPartitionPoint-from_clause, IsPartitionedBy-leb, IsPartitionedBy-ltb}
use Rattle.edi_plan.specs.declared.record.PlanAttribute.{PlanAttribute}
use Rattle.edi_objects.proofs.Runs.{filter-map, run_is}
use Rattle.edi_objects.proofs.attributes.of_class.Goals as goal

pub returns : goal.returns
returns c =
    let attributes = c.args.attributes.now in
    let class = c.args.class in
    let from = c.partition_point-from.result in
    let behind = c.split_at.result.1.now in
    let count = c.partition_point-count.result in
    let is = c.split_at.ensures.back in
    let rises : IsNonDecreasingBy (λ (x : Bor PlanAttribute). x.now.atp) behind = subst (λ (xs : List (Bor PlanAttribute)). IsNonDecreasingBy (λ (x : Bor PlanAttribute). x.now.atp) xs) (sym is) (IsNonDecreasingBy-drop (λ (x : Bor PlanAttribute). x.now.atp) from attributes c.requires) in
    let low = IsPartitionPoint-from_clause (λ (x : Bor PlanAttribute). ltb x.now.atp class) attributes from c.partition_point-from.ensures.partitioned
    (IsPartitionedBy-ltb (λ (x : Bor PlanAttribute). x.now.atp) attributes class c.requires) (λ a r f called. search rules) in
    let high = IsPartitionPoint-from_clause (λ (x : Bor PlanAttribute). leb x.now.atp class) behind count c.partition_point-count.ensures.partitioned
    (IsPartitionedBy-leb (λ (x : Bor PlanAttribute). x.now.atp) behind class rises) (λ a r f called. search rules) in
    ap (map (λ (a : Bor PlanAttribute). a.now)) (c.split_at-2.ensures.front ∙ run_is (λ (x : Bor PlanAttribute). x.now.atp) class attributes behind from count is c.partition_point-from.ensures.bound c.partition_point-count.ensures.bound low.0 low.1 high.0 high.1)
    ∙ filter-map (λ (a : Bor PlanAttribute). a.now) (λ (a : PlanAttribute). eqb a.atp class) attributes
