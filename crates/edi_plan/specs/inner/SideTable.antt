-- The nodes and the faces of arcs, in a table.
use Rattle.std.specs.Prelude.{◌≡◌, ℕ, ◌<◌, Bool, false, not, ◌&&◌, nat_eq, List, [], ◌∷◌, length, slice_index_or, is_some, is_none, Option, None, Some, if◌then◌else◌}
use Rattle.edi_line.specs.Refusal.{Test, test}
use Rattle.edi_record.specs.declared.record.Kind.{Kind}
use Rattle.edi_record.specs.declared.record.Kind.TheVariants.{Par}
use Rattle.edi_schema.specs.ByRole.{of_role, no_values}
use Rattle.edi_schema.specs.Roles.{is_plain, same_role}
use Rattle.edi_schema.specs.declared.role.Role.{Role}
use Rattle.edi_plan.specs.Joined.{beside, IsJoined}
use Rattle.edi_plan.specs.Plans.{PlanData, same_kind}
use Rattle.edi_plan.specs.Sides.{IsSideIfAny}
use Rattle.edi_plan.specs.Whole.{IsWholePlan}
use Rattle.edi_schema.specs.declared.by_role.ByRole.{ByRole}
use Rattle.edi_plan.specs.declared.sides.Join.{Join}
use Rattle.edi_plan.specs.declared.targets.Target.{Target}

-- a place, where one is there
abbrev pub place_if : Bool → ℕ → Option ℕ
place_if there place = if there then Some place else None

-- those of these places that are there
abbrev pub sides_there : ByRole ℕ → ByRole Bool → ByRole (Option ℕ)
sides_there places there = record {
  initial = place_if there.initial places.initial;
  final_node = place_if there.final_node places.final_node;
  left = place_if there.left places.left;
  right = place_if there.right places.right;
}

-- what the table has for the record at a place
abbrev pub side_at : List (ByRole (Option ℕ)) → ℕ → Role → Option ℕ
side_at table place role = of_role (slice_index_or table place no_values) role

-- the table has an entry for each record, and these are the nodes and the faces
pub record AreSides (p : PlanData) (table : List (ByRole (Option ℕ))) : Type 0 where
  pub long : length table ≡ length p.list
  pub each : (a : ℕ) (role : Role) → IsSideIfAny p a role (side_at table a role)

-- what each plan keeps, with its table
pub record HoldsSides (p : PlanData) (table : List (ByRole (Option ℕ))) : Type 0 where
  pub whole : IsWholePlan p
  pub joined : IsJoined p
  pub sides : AreSides p table

-- ---- links as they come

-- an arc and a record of this kind, in either order
abbrev pub join_of_two : Kind → Target → Target → Option Join
join_of_two kind d e =
    if same_kind d.kind Par && same_kind e.kind kind then Some (record { arc = d.place; other = e.place })
    else (if same_kind e.kind Par && same_kind d.kind kind then Some (record { arc = e.place; other = d.place })
    else None)

abbrev pub join_in : Kind → List (Option Target) → Option Join
join_in kind [] = None
join_in kind (t ∷ []) = None
join_in kind (None ∷ t ∷ []) = None
join_in kind (Some d ∷ None ∷ []) = None
join_in kind (Some d ∷ Some e ∷ []) = join_of_two kind d e
join_in kind (t ∷ u ∷ v ∷ ts) = None

-- what a link of a role joins
abbrev pub link_join : Role → List (Option Target) → Option Join
link_join role targets = if is_plain role then None else join_in (beside role) targets

-- whether the arc of the join has a link of that role
abbrev pub is_taken : List (ByRole (Option ℕ)) → Role → Option Join → Bool
is_taken table role None = false
is_taken table role (Some j) = is_some (side_at table j.arc role)

-- 306 and 307, for a link of a role with these targets
abbrev pub link_tests : List (ByRole (Option ℕ)) → Role → List (Option Target) → List Test
link_tests table role targets =
    test 306 (not (is_plain role) && is_none (link_join role targets))
    ∷ test 307 (is_taken table role (link_join role targets))
    ∷ []

-- what an arc has by a role once the join is noted
abbrev pub side_after : Option ℕ → Role → Option Join → ℕ → Role → Option ℕ
side_after old role None a r = old
side_after old role (Some j) a r = if same_role r role && nat_eq a j.arc then Some j.other else old

-- the table with the join of a link noted
pub record IsNoted (old : List (ByRole (Option ℕ))) (role : Role) (join : Option Join)
    (new : List (ByRole (Option ℕ))) : Type 0 where
  pub long : length new ≡ length old
  pub each : (a : ℕ) (r : Role) → is_plain r ≡ false → side_at new a r ≡ side_after (side_at old a r) role join a r

-- each target has an entry
abbrev pub HaveEntries : List (ByRole (Option ℕ)) → List (Option Target) → Type 0
HaveEntries table [] = Unit {0}
HaveEntries table (None ∷ ts) = HaveEntries table ts
HaveEntries table (Some t ∷ ts) = (t.place < length table) × HaveEntries table ts
