use Rattle.std.proofs.Common.{◌∙◌, map-id, refl, rules}
use Rattle.std.proofs.lemmas.Iterator.{YieldsList-from_slice, YieldsList-from_map, YieldsList-from_map_by}
use Rattle.std.proofs.lemmas.Iterator.Adapters.{YieldsList-from_vec}
use Rattle.std.proofs.lemmas.Iterator.Consumers.{YieldsList-at}
use Rattle.edi_schema.specs.Sorted.{sort_by}
use Rattle.edi_plan.specs.Orders.{attribute_cmp}
use Rattle.edi_plan.specs.declared.record.PlanAttribute.{PlanAttribute}
use Rattle.edi_plan.proofs.Orders.{attribute_total, attribute_exact}
use Rattle.edi_plan.proofs.DerivedOrders.{attribute_order}
use Rattle.edi_plan.proofs.Borrowed.{sorted_borrowed, items_of, collected_as}
use Rattle.edi_plan.proofs.attributes.sorted_attributes.Goals as goal

pub returns : goal.returns
returns c =
    let attributes = c.args.attributes.now in
    let run = c.in_ok-sorted.ensures.sorted in
    let items = items_of run (YieldsList-from_map _ (λ (a : PlanAttribute). a) (YieldsList-at c.map-keys.ensures.source (YieldsList-from_slice attributes c.iter.ensures.rest)) c.map-keys.ensures.closure (λ x r q k. search rules)) in
    let ordered = sorted_borrowed (λ (a : PlanAttribute). a) attribute_cmp attribute_total attribute_exact _ attribute_order attributes _ _ (items ∙ map-id attributes) run.3.0 run.3.1 in
    collected_as (sort_by attribute_cmp attributes) c.collect_vec.result c.collect_vec.ensures.runs
    (YieldsList-from_map_by _ (λ a. a.now) (λ (a : PlanAttribute). a) (YieldsList-at c.map.ensures.source (YieldsList-from_vec _ refl c.in_ok-sorted.ensures.len)) c.map.ensures.closure (λ x r q k. search rules)) ordered
