-- Arcs that nothing but their direction tells apart.
use Rattle.std.specs.Prelude.{ℕ, List, [], length, map, slice_index_or}
use Rattle.edi_record.specs.declared.record.Kind.TheVariants.{Par}
use Rattle.edi_record.specs.declared.record.Point.{Point}
use Rattle.edi_record.specs.Orders.{points_cmp}
use Rattle.edi_plan.specs.Places.{places_of}
use Rattle.edi_plan.specs.Plans.{PlanData, record_at}
use Rattle.edi_topo.specs.Directions.{forward}
use Rattle.edi_topo.specs.Ranking.{IsRanking}

-- the points of the arcs in the forward direction, in file order
abbrev pub forward_keys : PlanData → List (List Point)
forward_keys p = map (λ k. forward (record_at p k).points) (places_of Par p)

-- the numbers of the arcs of a plan, in file order, by their points in the forward direction
abbrev pub IsForwardRanking : PlanData → List ℕ → Type 0
IsForwardRanking p numbers =
    IsRanking points_cmp (λ m. slice_index_or (forward_keys p) m []) (length (places_of Par p)) numbers
