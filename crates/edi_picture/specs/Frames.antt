-- The frame of a picture, and its scale.
use Rattle.std.specs.Prelude.{◌≡◌, ℕ, ◌+◌, ◌*◌, ◌/◌, ◌^◌, ◌<◌, ◌≤◌, ◌==◌, ◌&&◌, ◌||◌, Bool, true, List, Option, None, Some, filter, nat_le, int_lt, min, max, if◌then◌else◌, ℤ, ◌-ℤ◌, unsigned_abs}
use Rattle.edi_line.specs.Number.{UNIT, size_text}
use Rattle.edi_record.specs.declared.record.Point.{Point}
use Rattle.edi_plan.specs.Extents.{IsExtentIfAny}
use Rattle.edi_plan.specs.declared.extent.Extent.{Extent}
use Rattle.edi_plan.specs.declared.extent.Span.{Span}
use Rattle.edi_picture.specs.Sheets.{DrawnSheet, all_points, arc_points}

-- how far two coordinates are apart, in millionths
abbrev pub distance : ℤ → ℤ → ℕ
distance a b = unsigned_abs (a -ℤ b)

-- the length of a side of the frame: that of its span, or one unit where this is nothing
abbrev pub side_length : Span → ℕ
side_length s = if distance s.greatest s.least == 0 then UNIT else distance s.greatest s.least

-- ---- what the frame holds

-- a coordinate lies in a span, or no farther from it than the span is long
abbrev pub is_near_span : Span → ℤ → Bool
is_near_span s n = nat_le (distance n s.least / 2) (side_length s) && nat_le (distance n s.greatest / 2) (side_length s)

-- the same of a point, if there are arcs, by their extent
abbrev pub is_near : Option Extent → Point → Bool
is_near None q = true
is_near (Some e) q = is_near_span e.x q.x && is_near_span e.y q.y

-- The least and the greatest coordinates of all points, but for those far from the arcs, so that a node that lies far
-- off doesn't make the rest small.
pub record IsFrame (sheets : List DrawnSheet) (frame : Option Extent) : Type 0 where
  pub arcs : Option Extent
  pub are_arcs : IsExtentIfAny (arc_points sheets) arcs
  pub is_frame : IsExtentIfAny (filter (is_near arcs) (all_points sheets)) frame

-- a point lies outside of the frame
abbrev pub is_beyond : Span → ℤ → Bool
is_beyond s n = int_lt n s.least || int_lt s.greatest n

abbrev pub is_outside : Extent → Point → Bool
is_outside f q = is_beyond f.x q.x || is_beyond f.y q.y

-- ---- the scale

-- the bar of the scale: the greatest power of ten that isn't longer than the frame is wide
pub record IsBar (width bar : ℕ) : Type 0 where
  pub power : ℕ
  pub is_power : bar ≡ 10 ^ power
  pub fits : bar ≤ width
  pub greatest : width < 10 * bar

-- how many millionths a pixel stands for, where 960 of them are as wide as the frame
abbrev pub width_pixel : Extent → ℕ
width_pixel f = side_length f.x / 960 + 1

-- how many pixels the plan is high: at most 1200
abbrev pub plan_height : Extent → ℕ
plan_height f = min 1200 (side_length f.y / width_pixel f + 1)

-- how many millionths a pixel stands for, where both sides fit
abbrev pub pixel : Extent → ℕ
pixel f = max (width_pixel f) (side_length f.y / 1200 + 1)

-- so many pixels, in units of the file
abbrev pub pixels : Extent → ℕ → List ℕ
pixels f n = size_text (n * pixel f)
