-- The direction of an arc.
use Rattle.std.specs.Prelude.{Bool, not, List, reverse, if◌then◌else◌}
use Rattle.std.specs.Ordering.{is_lt}
use Rattle.edi_record.specs.Orders.{points_cmp}
use Rattle.edi_record.specs.declared.record.Point.{Point}

-- the points are less than their reverse
abbrev pub is_forward : List Point → Bool
is_forward points = is_lt (points_cmp points (reverse points))

-- the points in the direction in which they are less than their reverse
abbrev pub forward : List Point → List Point
forward points = if not (is_forward points) then reverse points else points
