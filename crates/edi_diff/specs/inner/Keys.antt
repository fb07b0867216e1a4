-- By what a record may be known again, though it changed.
use Rattle.std.specs.Prelude.{ℕ, Bool, not, ◌&&◌, List, [], ◌∷◌, map, length, nat_lt, Option, None, Some, option_map, if◌then◌else◌}
use Rattle.std.specs.Ordering.{nat_cmp, ordering_then}
use Rattle.std.specs.Cmp.Lexicographic.{slice_cmp}
use Rattle.std.specs.declared.cmp.Ordering.{Ordering}
use Rattle.edi_record.specs.Orders.{points_cmp}
use Rattle.edi_record.specs.Records.{has_points, is_link}
use Rattle.edi_record.specs.contracts.record.KindOrd.TheImpl.{ghosts as kinds}
use Rattle.edi_record.specs.contracts.record.ExtraOrd.TheImpl.{ghosts as extras}
use Rattle.edi_record.specs.declared.record.Extra.{Extra}
use Rattle.edi_record.specs.declared.record.Kind.{Kind}
use Rattle.edi_record.specs.declared.record.Point.{Point}
use Rattle.edi_schema.specs.Sorted.{sort_by}
use Rattle.edi_plan.specs.Orders.{attribute_cmp}
use Rattle.edi_plan.specs.Plans.{PlanData, record_at}
use Rattle.edi_plan.specs.contracts.record.PlanAttributeOrd.TheImpl.{ghosts as attributes}
use Rattle.edi_plan.specs.declared.record.PlanAttribute.{PlanAttribute}
use Rattle.edi_topo.specs.Directions.{forward}
use Rattle.edi_diff.specs.contracts.proposing.LinkClassOrd.TheImpl.{ghosts as link_classes}
use Rattle.edi_diff.specs.declared.proposing.LinkClass.{LinkClass}
use Rattle.edi_diff.specs.inner.Codes.{is_of_second, place_by}
use Rattle.edi_diff.specs.inner.Joints.{joined_with, record_by}
use Rattle.edi_diff.specs.inner.Progress.{ChangesSoFar, link_class_at, known_name, plan_of}

-- there is a record at the place
abbrev pub is_there : PlanData → ℕ → Bool
is_there p place = nat_lt place (length p.list)

-- a node or an arc by its type and its points, in their forward direction
abbrev pub points_key : PlanData → ℕ → Option (Kind × List Point)
points_key p place =
    if is_there p place && has_points (record_at p place).kind
    then Some ((record_at p place).kind, forward (record_at p place).points) else None

-- a record, but for a link, by its type, its class, its attributes and its extra zones
abbrev pub contents_key : PlanData → ℕ → Option ((Kind × ℕ) × (List PlanAttribute × List Extra))
contents_key p place =
    if is_there p place && not (is_link (record_at p place).kind)
    then Some (
      ((record_at p place).kind, (record_at p place).class),
      (sort_by attribute_cmp (record_at p place).attributes, (record_at p place).extras),
    )
    else None

-- a list that isn't empty
abbrev pub if_any : {X : Type 0} → List X → Option (List X)
if_any [] = None
if_any (x ∷ xs) = Some (x ∷ xs)

-- a record, but for a link, by its type and what links join it with, if they join it with anything
abbrev pub joined_key : ChangesSoFar → List (ℕ × (LinkClass × ℕ)) → ℕ → Option (Kind × List (LinkClass × ℕ))
joined_key m joints code =
    if is_there (plan_of m (is_of_second code)) (place_by code) && not (is_link (record_by m code).kind)
    then option_map (λ names. ((record_by m code).kind, names)) (if_any (joined_with joints code))
    else None

-- all values of a list, if each is there
abbrev pub all_known : {X : Type 0} → List (Option X) → Option (List X)
all_known [] = Some []
all_known (None ∷ xs) = None
all_known (Some x ∷ xs) = option_map (λ rest. x ∷ rest) (all_known xs)

-- a link by its class and the names of its ends, if each has one
abbrev pub named_ends_key : ChangesSoFar → ℕ → Option (LinkClass × List ℕ)
named_ends_key m code =
    if is_there (plan_of m (is_of_second code)) (place_by code) && is_link (record_by m code).kind
    then option_map (λ names. (link_class_at m (is_of_second code) (place_by code), names))
    (all_known (map (λ end. known_name m (is_of_second code) end.target) (record_by m code).ends))
    else None

-- keys by points go by type, then by points
abbrev pub points_key_cmp : (Kind × List Point) → (Kind × List Point) → Ordering
points_key_cmp a b = ordering_then (kinds.cmp a.0 b.0) (points_cmp a.1 b.1)

-- keys by contents go by type, class, attributes and extra zones
abbrev pub contents_key_cmp : ((Kind × ℕ) × (List PlanAttribute × List Extra))
    → ((Kind × ℕ) × (List PlanAttribute × List Extra)) → Ordering
contents_key_cmp a b =
    ordering_then (ordering_then (kinds.cmp a.0.0 b.0.0) (nat_cmp a.0.1 b.0.1))
    (ordering_then (slice_cmp attributes.cmp a.1.0 b.1.0) (slice_cmp extras.cmp a.1.1 b.1.1))

-- keys by what links join go by type, then by these in their order
abbrev pub joined_key_cmp : (Kind × List (LinkClass × ℕ)) → (Kind × List (LinkClass × ℕ)) → Ordering
joined_key_cmp a b =
    ordering_then (kinds.cmp a.0 b.0)
    (slice_cmp (λ x y. ordering_then (link_classes.cmp x.0 y.0) (nat_cmp x.1 y.1)) a.1 b.1)

-- keys by ends go by class, then by the names of the ends
abbrev pub ends_key_cmp : (LinkClass × List ℕ) → (LinkClass × List ℕ) → Ordering
ends_key_cmp a b = ordering_then (link_classes.cmp a.0 b.0) (slice_cmp nat_cmp a.1 b.1)
