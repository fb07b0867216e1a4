-- Faces on a side of an arc.
use Rattle.std.specs.Prelude.{◌≡◌, ◌⊎◌, ◌↔◌, ℕ, ◌<◌, Bool, true, false, List, length, slice_index_or}
use Rattle.edi_schema.specs.declared.role.Role.TheVariants.{Left, Right}
use Rattle.edi_plan.specs.Plans.{PlanData}
use Rattle.edi_plan.specs.Sides.{Side}

-- one of the first n records has the face on its left or right
abbrev pub IsFacedBelow : PlanData → ℕ → ℕ → Type 0
IsFacedBelow p n x = (a : ℕ) × (a < n) × (Side p a Left x ⊎ Side p a Right x)

-- the table says of each record whether one of the first n has it on a side
pub record AreFacedBelow (p : PlanData) (n : ℕ) (faced : List Bool) : Type 0 where
  pub long : length faced ≡ length p.list
  pub each : (x : ℕ) → (slice_index_or faced x false ≡ true) ↔ IsFacedBelow p n x

-- the table says of each record whether some arc has it on a side
abbrev pub AreFaced : PlanData → List Bool → Type 0
AreFaced p faced = AreFacedBelow p (length p.list) faced
