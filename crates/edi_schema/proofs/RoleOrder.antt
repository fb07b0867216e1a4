-- Kinds of link go by their ranks.
use Rattle.std.proofs.Common.{◌≡◌, refl, nat_cmp}
use Rattle.edi_schema.specs.Roles.{role_rank}
use Rattle.edi_schema.specs.declared.role.Role.{Role}
use Rattle.edi_schema.specs.declared.role.Role.TheVariants.{Initial, Final, Left, Right, Plain}
use Rattle.edi_schema.specs.contracts.role.RoleOrd.TheImpl.{ghosts as roles}

pub role_order : (a b : Role) → roles.cmp a b ≡ nat_cmp (role_rank a) (role_rank b)
role_order Initial Initial = refl
role_order Initial Final = refl
role_order Initial Left = refl
role_order Initial Right = refl
role_order Initial Plain = refl
role_order Final Initial = refl
role_order Final Final = refl
role_order Final Left = refl
role_order Final Right = refl
role_order Final Plain = refl
role_order Left Initial = refl
role_order Left Final = refl
role_order Left Left = refl
role_order Left Right = refl
role_order Left Plain = refl
role_order Right Initial = refl
role_order Right Final = refl
role_order Right Left = refl
role_order Right Right = refl
role_order Right Plain = refl
role_order Plain Initial = refl
role_order Plain Final = refl
role_order Plain Left = refl
role_order Plain Right = refl
role_order Plain Plain = refl
