-- The places of the classes of the four kinds.
use Rattle.std.specs.Prelude.{◌≡◌, ◌⊎◌, ℕ, ◌<◌, ◌≤◌, Bool, true, false, ◌&&◌, Option, Some, None, position, count_by}
use Rattle.edi_schema.specs.Roles.{is_plain, exchanged}
use Rattle.std.specs.List.{list_any}
use Rattle.edi_schema.specs.Classes.{Classes, has_role, is_pointable}
use Rattle.edi_schema.specs.declared.role.Role.{Role}
use Rattle.edi_schema.specs.ByRole.{of_role}
use Rattle.edi_schema.specs.declared.by_role.ByRole.{ByRole}

-- both or none
abbrev pub are_equal : Option ℕ → Option ℕ → Bool
are_equal (Some m) (Some n) = true
are_equal None None = true
are_equal (Some m) None = false
are_equal None (Some n) = false

abbrev pub are_paired : ByRole (Option ℕ) → Bool
are_paired p = are_equal p.initial p.final_node && are_equal p.left p.right

-- each kind has one class at most, and this is its place
pub record AreNoted (s : Classes) (p : ByRole (Option ℕ)) : Type 0 where
  pub place : (role : Role) → is_plain role ≡ false → of_role p role ≡ position (has_role role) s
  pub one : (role : Role) → is_plain role ≡ false → count_by (has_role role) s ≤ 1

-- and it has one if the kind that it is exchanged with has
pub record ArePlaces (s : Classes) (p : ByRole (Option ℕ)) : Type 0 where
  pub noted : AreNoted s p
  pub both : (role : Role) → is_plain role ≡ false → count_by (has_role role) s ≡ count_by (has_role (exchanged role)) s

-- a kind has two classes, or one where the kind that it is exchanged with has none
abbrev pub AreUnpaired : Classes → Type 0
AreUnpaired s =
    (role : Role) × (is_plain role ≡ false) × ((1 < count_by (has_role role) s)
    ⊎ ((0 < count_by (has_role role) s) × (count_by (has_role (exchanged role)) s ≡ 0)))

-- of each kind, a pointer can name a class if one can name a class of the kind that it is exchanged with
abbrev pub ArePointable : Classes → Type 0
ArePointable s =
    (role : Role) → is_plain role ≡ false → list_any (is_pointable role) s ≡ list_any (is_pointable (exchanged role)) s

-- of some kind, a pointer can name a class, and none of the kind that it is exchanged with
abbrev pub AreUnpointable : Classes → Type 0
AreUnpointable s =
    (role : Role) × (is_plain role ≡ false) × (list_any (is_pointable role) s ≡ true)
    × (list_any (is_pointable (exchanged role)) s ≡ false)
