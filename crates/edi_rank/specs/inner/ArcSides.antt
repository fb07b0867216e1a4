-- The least sides of faces, as the sides of arcs are taken.
use Rattle.std.specs.Prelude.{◌≡◌, ◌⊎◌, ℕ, Option, Some, None, if◌then◌else◌}
use Rattle.std.specs.Ordering.{is_gt}
use Rattle.edi_schema.specs.Roles.{exchanged}
use Rattle.edi_schema.specs.declared.role.Role.{Role}
use Rattle.edi_plan.specs.Plans.{PlanData}
use Rattle.edi_plan.specs.Sides.{Side}
use Rattle.edi_rank.specs.Keys.{face_key_cmp}
use Rattle.edi_rank.specs.Turned.{is_backward}
use Rattle.edi_rank.specs.declared.keys.FaceKey.{FaceKey}

-- the side that an arc has by a role, once the arc is forward
abbrev pub side_key : PlanData → (ℕ → ℕ) → ℕ → Role → FaceKey
side_key p number arc role = record { arc = number arc; side = if is_backward p arc then exchanged role else role }

-- the lesser of two sides, of which the first may be missing
abbrev pub lesser_of : Option FaceKey → FaceKey → FaceKey
lesser_of None side = side
lesser_of (Some other) side = if is_gt (face_key_cmp side other) then other else side

-- the least side of a face before and after a side of an arc is taken: it is another only where the arc has the face
-- there
abbrev pub IsSideTaken : PlanData → (ℕ → ℕ) → ℕ → Role → ℕ → Option FaceKey → Option FaceKey → Type 0
IsSideTaken p number arc role face before after =
    (Side p arc role face × (after ≡ Some (lesser_of before (side_key p number arc role))))
    ⊎ (¬ (Side p arc role face) × (after ≡ before))
