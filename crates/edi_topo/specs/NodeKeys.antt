-- The keys of nodes, and their order.
use Rattle.std.specs.Prelude.{ℕ, List, [], length, map, pos, slice_index_or, None}
use Rattle.std.specs.Ordering.{ordering_then, nat_cmp}
use Rattle.std.specs.Cmp.Lexicographic.{slice_cmp}
use Rattle.std.specs.declared.cmp.Ordering.{Ordering}
use Rattle.edi_record.specs.Orders.{point_cmp, extra_cmp}
use Rattle.edi_record.specs.declared.record.Point.{Point}
use Rattle.edi_schema.specs.Sorted.{sort_by}
use Rattle.edi_record.specs.declared.record.Kind.TheVariants.{Pno}
use Rattle.edi_plan.specs.Orders.{attribute_cmp}
use Rattle.edi_plan.specs.Places.{places_of}
use Rattle.edi_plan.specs.Plans.{PlanData, record_at}
use Rattle.edi_plan.specs.declared.record.PlanRecord.{PlanRecord}
use Rattle.edi_topo.specs.Ranking.{IsRanking}
use Rattle.edi_topo.specs.declared.node_key.NodeKey.{NodeKey}

-- nodes go by place, class, attributes, extras
abbrev pub node_key_cmp : NodeKey → NodeKey → Ordering
node_key_cmp a b = ordering_then (point_cmp a.point b.point) (ordering_then (nat_cmp a.class b.class)
    (ordering_then (slice_cmp attribute_cmp a.attributes b.attributes) (slice_cmp extra_cmp a.extras b.extras)))

-- what stands for the place of a record without points
abbrev pub no_point : Point
no_point = record { x = pos 0; y = pos 0; z = None }

-- what tells a node from the others, its attributes in order
abbrev pub node_key : PlanRecord → NodeKey
node_key r = record {
  point = slice_index_or r.points 0 no_point;
  class = r.class;
  attributes = sort_by attribute_cmp r.attributes;
  extras = r.extras;
}

-- the keys of the nodes, in file order
abbrev pub node_keys : PlanData → List NodeKey
node_keys p = map (λ k. node_key (record_at p k)) (places_of Pno p)

-- what stands past the last key
abbrev pub no_node : NodeKey
no_node = record { point = no_point; class = 0; attributes = []; extras = [] }

-- the numbers of the nodes of a plan, in file order, by their keys
abbrev pub IsNodeRanking : PlanData → List ℕ → Type 0
IsNodeRanking p numbers =
    IsRanking node_key_cmp (λ m. slice_index_or (node_keys p) m no_node) (length (places_of Pno p)) numbers
