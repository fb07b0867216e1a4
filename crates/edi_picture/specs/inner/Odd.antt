-- The places at which an odd number of ends is.
use Rattle.std.specs.Prelude.{◌≡◌, ℕ, ◌%◌, ◌==◌, Bool, not, List, count_by, ℤ}
use Rattle.std.specs.Ordering.{int_cmp, ordering_then}
use Rattle.std.specs.declared.cmp.Ordering.{Ordering}
use Rattle.std.specs.BTreeSet.{BTreeSet, contains}
use Rattle.edi_record.specs.declared.record.Point.{Point}
use Rattle.edi_picture.specs.Faces.{same_spot}

-- places in their order: by x, then by y
abbrev pub spot_cmp : ℤ × ℤ → ℤ × ℤ → Ordering
spot_cmp a b = ordering_then (int_cmp a.0 b.0) (int_cmp a.1 b.1)

abbrev pub is_odd : ℕ → Bool
is_odd n = not (n % 2 == 0)

-- the set has the places at which an odd number of these ends is
abbrev pub HasOdd : BTreeSet (ℤ × ℤ) → List Point → Type 0
HasOdd odd ends = (q : Point) → contains spot_cmp odd (q.x, q.y) ≡ is_odd (count_by (same_spot q) ends)
