-- What links join records with.
use Rattle.std.specs.Prelude.{ℕ, List, [], ◌∷◌, ◌++◌, map, filter, flat_map, nat_eq, is_some, option_to_list, if◌then◌else◌, false, true, IsPermutation, IsSorted}
use Rattle.std.specs.Ordering.{nat_cmp, ordering_then}
use Rattle.std.specs.declared.cmp.Ordering.{Ordering}
use Rattle.edi_record.specs.declared.record.Kind.TheVariants.{Lnk}
use Rattle.edi_plan.specs.Places.{places_of}
use Rattle.edi_plan.specs.Plans.{record_at}
use Rattle.edi_plan.specs.declared.record.PlanEnd.{PlanEnd}
use Rattle.edi_plan.specs.declared.record.PlanRecord.{PlanRecord}
use Rattle.edi_diff.specs.declared.proposing.LinkClass.{LinkClass}
use Rattle.edi_diff.specs.contracts.proposing.LinkClassOrd.TheImpl.{ghosts as link_classes}
use Rattle.edi_diff.specs.inner.Codes.{code_at, is_of_second, place_by}
use Rattle.edi_diff.specs.inner.Progress.{ChangesSoFar, link_class_at, known_name, plan_of}

-- that a link joins a record without a name with one that has a name, by the class of the link and that name; else
-- nothing
abbrev pub joint_of : ChangesSoFar → ℕ → ℕ → ℕ → List (ℕ × (LinkClass × ℕ))
joint_of m link place with_place =
    if is_some (known_name m (is_of_second link) place) then []
    else map (λ name. (code_at (is_of_second link) place, (link_class_at m (is_of_second link) (place_by link), name)))
    (option_to_list (known_name m (is_of_second link) with_place))

-- what a link joins: its origin with each other end, and that with its origin
abbrev pub joints_by_ends : ChangesSoFar → ℕ → List PlanEnd → List (ℕ × (LinkClass × ℕ))
joints_by_ends m link [] = []
joints_by_ends m link (origin ∷ others) =
    flat_map (λ end. joint_of m link origin.target end.target ++ joint_of m link end.target origin.target) others

-- the record with a code
abbrev pub record_by : ChangesSoFar → ℕ → PlanRecord
record_by m code = record_at (plan_of m (is_of_second code)) (place_by code)

-- what the link with a code joins
abbrev pub joints_of : ChangesSoFar → ℕ → List (ℕ × (LinkClass × ℕ))
joints_of m link = joints_by_ends m link (record_by m link).ends

-- what the links of both plans join
abbrev pub all_joints : ChangesSoFar → List (ℕ × (LinkClass × ℕ))
all_joints m =
    flat_map (λ place. joints_of m (code_at false place)) (places_of Lnk m.plan)
    ++ flat_map (λ place. joints_of m (code_at true place)) (places_of Lnk m.other)

-- these go by the code of the record, then by the class of the link, then by the name
abbrev pub joint_cmp : (ℕ × (LinkClass × ℕ)) → (ℕ × (LinkClass × ℕ)) → Ordering
joint_cmp a b = ordering_then (nat_cmp a.0 b.0) (ordering_then (link_classes.cmp a.1.0 b.1.0) (nat_cmp a.1.1 b.1.1))

-- what the links of both plans join, in order
pub record AreJoints (m : ChangesSoFar) (joints : List (ℕ × (LinkClass × ℕ))) : Type 0 where
  pub all : IsPermutation (all_joints m) joints
  pub sorted : IsSorted joint_cmp joints

-- what links join the record with a code with, of all that they join
abbrev pub joined_with : List (ℕ × (LinkClass × ℕ)) → ℕ → List (LinkClass × ℕ)
joined_with joints code = map (λ joint. joint.1) (filter (λ joint. nat_eq joint.0 code) joints)
