-- The keys by which the records of a plan are put in order, and their orders. They speak of other records by their
-- numbers alone.
use Rattle.std.specs.Prelude.{◌≡◌, ℕ, ◌==◌, ◌&&◌, Bool, List, [], ◌∷◌, Option, Some, None, map, option_map, option_and_then, if◌then◌else◌, count_by}
use Rattle.std.specs.List.{list_any, filter_map}
use Rattle.std.specs.Ordering.{ordering_then, nat_cmp}
use Rattle.std.specs.Cmp.Lexicographic.{slice_cmp}
use Rattle.std.specs.declared.cmp.Ordering.{Ordering}
use Rattle.edi_record.specs.Orders.{text_cmp, extra_cmp}
use Rattle.edi_schema.specs.Sorted.{sort_by}
use Rattle.edi_schema.specs.Roles.{role_rank}
use Rattle.edi_schema.specs.declared.role.Role.{Role}
use Rattle.edi_schema.specs.declared.role.Role.TheVariants.{Initial, Final, Left, Right, Plain}
use Rattle.edi_plan.specs.Orders.{attribute_cmp}
use Rattle.edi_record.specs.Records.{is_link}
use Rattle.edi_plan.specs.Plans.{PlanData, record_at, kind_rank, is_arc, is_object, first_of}
use Rattle.edi_plan.specs.declared.record.PlanRecord.{PlanRecord}
use Rattle.edi_plan.specs.declared.record.PlanEnd.{PlanEnd}
use Rattle.edi_rank.specs.declared.keys.NumberedEnd.{NumberedEnd}
use Rattle.edi_rank.specs.declared.keys.LinkKey.{LinkKey}
use Rattle.edi_rank.specs.declared.keys.ObjectKey.{ObjectKey}
use Rattle.edi_rank.specs.declared.keys.FaceKey.{FaceKey}

-- the orders

-- type, number and value of SNS
abbrev pub end_cmp : NumberedEnd → NumberedEnd → Ordering
end_cmp a b =
    ordering_then (nat_cmp (kind_rank a.kind) (kind_rank b.kind))
    (ordering_then (nat_cmp a.number b.number) (text_cmp a.sns b.sns))

-- class, ends, attributes and extra zones
abbrev pub link_key_cmp : LinkKey → LinkKey → Ordering
link_key_cmp a b = ordering_then (nat_cmp a.class b.class) (ordering_then (slice_cmp end_cmp a.ends b.ends)
    (ordering_then (slice_cmp attribute_cmp a.attributes b.attributes) (slice_cmp extra_cmp a.extras b.extras)))

-- class, attributes, extra zones and pieces
abbrev pub object_key_cmp : ObjectKey → ObjectKey → Ordering
object_key_cmp a b =
    ordering_then (nat_cmp a.class b.class) (ordering_then (slice_cmp attribute_cmp a.attributes b.attributes)
    (ordering_then (slice_cmp extra_cmp a.extras b.extras) (slice_cmp link_key_cmp a.pieces b.pieces)))

-- number of the arc, and its left before its right
abbrev pub face_key_cmp : FaceKey → FaceKey → Ordering
face_key_cmp a b = ordering_then (nat_cmp a.arc b.arc) (nat_cmp (role_rank a.side) (role_rank b.side))

-- links

-- a record with these two ends and no others, which have no SNS, and with neither attributes nor extra zones
pub record IsPlainLink (r : PlanRecord) (origin other : PlanEnd) : Type 0 where
  pub ends : r.ends ≡ origin ∷ other ∷ []
  pub origin_bare : origin.sns ≡ None
  pub other_bare : other.sns ≡ None
  pub attributes : r.attributes ≡ []
  pub extras : r.extras ≡ []

-- an end, with the number of what it names
abbrev pub numbered : PlanData → (ℕ → ℕ) → PlanEnd → NumberedEnd
numbered p number e = record { kind = (record_at p e.target).kind; number = number e.target; sns = e.sns }

-- the origin, and then the other ends in order
abbrev pub ends_key : PlanData → (ℕ → ℕ) → List PlanEnd → List NumberedEnd
ends_key p number [] = []
ends_key p number (origin ∷ others) = numbered p number origin ∷ sort_by end_cmp (map (numbered p number) others)

-- a link by its class, its ends, its attributes in order and its extra zones
abbrev pub link_key : PlanData → (ℕ → ℕ) → PlanRecord → LinkKey
link_key p number r = record {
  class = r.class;
  ends = ends_key p number r.ends;
  attributes = sort_by attribute_cmp r.attributes;
  extras = r.extras;
}

-- faces

-- the side that a class of a kind puts a face on
abbrev pub side_of : Role → Option Role
side_of Initial = None
side_of Final = None
side_of Left = Some Left
side_of Right = Some Right
side_of Plain = None

-- the number of the arc, where one of two ends is an arc and the other is the face
abbrev pub arc_beside : PlanData → (ℕ → ℕ) → ℕ → List PlanEnd → Option ℕ
arc_beside p number face [] = None
arc_beside p number face (d ∷ []) = None
arc_beside p number face (d ∷ e ∷ []) =
    if is_arc (record_at p d.target).kind && (e.target == face) then Some (number d.target)
    else (if is_arc (record_at p e.target).kind && (d.target == face) then Some (number e.target) else None)
arc_beside p number face (d ∷ e ∷ f ∷ ends) = None

-- the side of an arc on which a record puts the face
abbrev pub side_by : PlanData → (ℕ → ℕ) → ℕ → PlanRecord → Option FaceKey
side_by p number face r =
    option_and_then (λ side. option_map (λ arc. record { arc = arc; side = side }) (arc_beside p number face r.ends))
    (side_of r.role)

-- the sides of a face, the least first
abbrev pub sides_of : PlanData → (ℕ → ℕ) → ℕ → List FaceKey
sides_of p number face = sort_by face_key_cmp (filter_map (side_by p number face) p.list)

-- the least side of a face, if it has one
abbrev pub least_side : PlanData → (ℕ → ℕ) → ℕ → Option FaceKey
least_side p number face = first_of (sides_of p number face)

-- objects

-- a link of which exactly one end is an object, that one
abbrev pub is_piece : PlanData → ℕ → PlanRecord → Bool
is_piece p object r =
    is_link r.kind && (count_by (λ e. is_object (record_at p e.target).kind) r.ends == 1)
    && list_any (λ e. e.target == object) r.ends

-- the numbers, but 0 for the object itself
abbrev pub marked : (ℕ → ℕ) → ℕ → ℕ → ℕ
marked number object place = if place == object then 0 else number place

-- a record as a piece of the object, if it is one
abbrev pub piece_by : PlanData → (ℕ → ℕ) → ℕ → PlanRecord → Option LinkKey
piece_by p number object r = if is_piece p object r then Some (link_key p (marked number object) r) else None

-- an object by its class, its attributes in order, its extra zones, and its pieces in order
abbrev pub object_key : PlanData → (ℕ → ℕ) → ℕ → ObjectKey
object_key p number object = record {
  class = (record_at p object).class;
  attributes = sort_by attribute_cmp (record_at p object).attributes;
  extras = (record_at p object).extras;
  pieces = sort_by link_key_cmp (filter_map (piece_by p number object) p.list);
}
