-- Laws of pictures.
use Rattle.std.specs.Prelude.{◌≡◌, ◌≢◌, ◌↔◌, ℕ, List, true}
use Rattle.edi_schema.specs.Classes.{Classes}
use Rattle.edi_schema.specs.declared.role.Role.{Role}
use Rattle.edi_schema.specs.declared.role.Role.TheVariants.{Plain}
use Rattle.edi_plan.specs.Plans.{PlanData, IsPlace}
use Rattle.edi_plan.specs.Sides.{Side}
use Rattle.edi_picture.specs.Faces.{is_beside}
use Rattle.edi_picture.specs.Pictures.{IsPicture}
use Rattle.edi_picture.specs.Sheets.{DrawnSheet}

-- a picture finds a face beside an arc exactly if the arc has it on that side
abbrev pub BesideIsSide : Type 0
BesideIsSide = (p : PlanData) (role : Role) (a k : ℕ) → IsPlace p a → role ≢ Plain
    → (is_beside p role a k ≡ true) ↔ Side p a role k

-- sheets have one picture at most
abbrev pub PicturesAreOne : Type 0
PicturesAreOne = (s : Classes) (sheets : List DrawnSheet) (text other : List ℕ)
    → IsPicture s sheets text → IsPicture s sheets other → text ≡ other
