-- The least and the greatest coordinates of points.
use Rattle.std.specs.Prelude.{◌≡◌, List, [], map, flat_map, Option, MatchOption, ℤ, Contains}
use Rattle.std.specs.Int.Signed.{◌≤ℤ◌}
use Rattle.edi_record.specs.declared.record.Point.{Point}
use Rattle.edi_plan.specs.Plans.{PlanData}
use Rattle.edi_plan.specs.declared.extent.Span.{Span}
use Rattle.edi_plan.specs.declared.extent.Extent.{Extent}

-- the least and the greatest of these numbers
pub record IsSpan (numbers : List ℤ) (s : Span) : Type 0 where
  pub least : Contains numbers s.least
  pub greatest : Contains numbers s.greatest
  pub above : (n : ℤ) → Contains numbers n → s.least ≤ℤ n
  pub below : (n : ℤ) → Contains numbers n → n ≤ℤ s.greatest

abbrev pub all_x : List Point → List ℤ
all_x points = map (λ q. q.x) points

abbrev pub all_y : List Point → List ℤ
all_y points = map (λ q. q.y) points

-- the least and the greatest coordinates of these points
pub record IsExtent (points : List Point) (e : Extent) : Type 0 where
  pub x : IsSpan (all_x points) e.x
  pub y : IsSpan (all_y points) e.y

-- the extent of these points, or there are none
abbrev pub IsExtentIfAny : List Point → Option Extent → Type 0
IsExtentIfAny points found = MatchOption found (points ≡ []) (IsExtent points)

-- the points of the nodes and arcs of a plan
abbrev pub points_of : PlanData → List Point
points_of p = flat_map (λ r. r.points) p.list
