-- How far two positions lie from each other.
use Rattle.std.specs.Prelude.{ℕ, ◌+◌, ◌*◌, ◌-ℤ◌, ℤ, Bool, List, [], ◌∷◌, count_by, fold, max, nat_le, reverse, zip, if◌then◌else◌}
use Rattle.std.specs.List.{range_with_len}
use Rattle.std.specs.Ordering.{is_ne}
use Rattle.edi_line.specs.Number.{size_of}
use Rattle.edi_record.specs.Orders.{point_cmp}
use Rattle.edi_record.specs.declared.record.Point.{Point}

-- the square root, rounded down: of how many numbers from 1 on the square is at most n
unfoldable pub root : ℕ → ℕ
root n = count_by (λ k. nat_le ((k + 1) * (k + 1)) n) (range_with_len 0 n)

abbrev pub square_of : ℤ → ℕ
square_of z = size_of z * size_of z

-- the distance of two positions in the plane, in millionths and rounded down
abbrev pub distance_between : Point → Point → ℕ
distance_between a b = root (square_of (a.x -ℤ b.x) + square_of (a.y -ℤ b.y))

-- the greatest distance of two positions that stand side by side
abbrev pub farthest : List (Point × Point) → ℕ
farthest pairs = fold (λ d pair. max d (distance_between pair.0 pair.1)) 0 pairs

-- how many of them differ
abbrev pub unlike : Point × Point → Bool
unlike pair = is_ne (point_cmp pair.0 pair.1)

abbrev pub unlike_count : List (Point × Point) → ℕ
unlike_count pairs = count_by unlike pairs

-- the points of two lists side by side, in the direction in which fewer differ
abbrev pub side_by_side : List Point → List Point → List (Point × Point)
side_by_side a b =
    if nat_le (unlike_count (zip a b)) (unlike_count (zip a (reverse b))) then zip a b
    else zip a (reverse b)

-- the distance of the first points of two lists; 0 where one has none
abbrev pub distance_of_first : List Point → List Point → ℕ
distance_of_first [] others = 0
distance_of_first (p ∷ points) [] = 0
distance_of_first (p ∷ points) (q ∷ others) = distance_between p q
