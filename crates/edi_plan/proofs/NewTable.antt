-- A table that has nothing yet.
use Rattle.std.proofs.Common.{◌≡◌, ℕ, zero, suc, None, refl, slice_index_or, replicate}
use Rattle.edi_schema.specs.ByRole.{no_values, of_role}
use Rattle.edi_schema.specs.declared.role.Role.{Role}
use Rattle.edi_schema.specs.declared.role.Role.TheVariants.{Initial, Final, Left, Right, Plain}

-- no record has anything in a new table
pub new_entries : (n a : ℕ) → slice_index_or (replicate n no_values) a no_values ≡ no_values {X = ℕ}
new_entries zero a = refl
new_entries (suc n) zero = refl
new_entries (suc n) (suc a) = new_entries n a

pub nothing_of : (role : Role) → of_role (no_values {X = ℕ}) role ≡ None
nothing_of Initial = refl
nothing_of Final = refl
nothing_of Left = refl
nothing_of Right = refl
nothing_of Plain = refl
