-- A value for each of the four kinds of link.
use Rattle.std.specs.Prelude.{◌≡◌, false, Option, Some, None, if◌then◌else◌}
use Rattle.edi_schema.specs.Roles.{is_plain, same_role}
use Rattle.edi_schema.specs.declared.role.Role.{Role}
use Rattle.edi_schema.specs.declared.role.Role.TheVariants.{Initial, Final, Left, Right, Plain}
use Rattle.edi_schema.specs.declared.by_role.ByRole.{ByRole}

-- the value for a kind, if there is one; there is none for plain links
abbrev pub of_role : {X : Type 0} → ByRole (Option X) → Role → Option X
of_role values Initial = values.initial
of_role values Final = values.final_node
of_role values Left = values.left
of_role values Right = values.right
of_role values Plain = None

abbrev pub no_values : {X : Type 0} → ByRole (Option X)
no_values = record { initial = None; final_node = None; left = None; right = None }

-- the new values have this one for the role, and those of the old for each other kind
abbrev pub IsWith : {X : Type 0} → ByRole (Option X) → Role → X → ByRole (Option X) → Type 0
IsWith old role value new =
    (r : Role) → is_plain r ≡ false → of_role new r ≡ (if same_role r role then Some value else of_role old r)
