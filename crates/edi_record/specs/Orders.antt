-- The orders of points, values and extras.
use Rattle.std.specs.Prelude.{ℕ, List, Option}
use Rattle.std.specs.declared.cmp.Ordering.{Ordering}
use Rattle.std.specs.declared.cmp.Ordering.TheVariants.{Less, Greater}
use Rattle.std.specs.Ordering.{ordering_then, nat_cmp, int_cmp}
use Rattle.std.specs.Cmp.Lexicographic.{slice_cmp}
use Rattle.std.specs.Option.{option_cmp}
use Rattle.edi_record.specs.declared.record.Point.{Point}
use Rattle.edi_record.specs.declared.record.Value.{Value}
use Rattle.edi_record.specs.declared.record.Value.TheVariants.{Number, Bytes}
use Rattle.edi_record.specs.declared.record.Extra.{Extra}

-- texts go by their first bytes that differ, and one that another begins with comes first
abbrev pub bytes_cmp : List ℕ → List ℕ → Ordering
bytes_cmp = slice_cmp nat_cmp

-- the same of texts that may be absent, absent first
abbrev pub text_cmp : Option (List ℕ) → Option (List ℕ) → Ordering
text_cmp = option_cmp bytes_cmp

-- points go by x, then by y, then by z, absent first
abbrev pub point_cmp : Point → Point → Ordering
point_cmp a b = ordering_then (int_cmp a.x b.x) (ordering_then (int_cmp a.y b.y) (option_cmp int_cmp a.z b.z))

-- lists of points go by their first points that differ, and one that another begins with comes first
abbrev pub points_cmp : List Point → List Point → Ordering
points_cmp = slice_cmp point_cmp

-- numbers come before bytes
abbrev pub value_cmp : Value → Value → Ordering
value_cmp (Number m) (Number n) = int_cmp m n
value_cmp (Number m) (Bytes b) = Less
value_cmp (Bytes b) (Number m) = Greater
value_cmp (Bytes b) (Bytes c) = bytes_cmp b c

-- extras go by code, nature, format and value
abbrev pub extra_cmp : Extra → Extra → Ordering
extra_cmp a b =
    ordering_then (bytes_cmp a.code b.code) (ordering_then (nat_cmp a.nature b.nature)
    (ordering_then (nat_cmp a.format b.format) (value_cmp a.value b.value)))
