-- Sheets that are drawn.
use Rattle.std.specs.Prelude.{ℕ, Bool, false, List, [], slice_index_or, unwrap_or}
use Rattle.std.specs.List.{AllByRecursion, flat_map}
use Rattle.edi_record.specs.declared.record.Kind.TheVariants.{Par}
use Rattle.edi_record.specs.declared.record.Point.{Point}
use Rattle.edi_record.specs.declared.name.Name.{Name}
use Rattle.edi_schema.specs.Classes.{Classes, class_name_at}
use Rattle.edi_plan.specs.Agreeing.{HasClasses}
use Rattle.edi_plan.specs.Extents.{points_of}
use Rattle.edi_plan.specs.Places.{places_of}
use Rattle.edi_plan.specs.Plans.{PlanData, record_at}
use Rattle.edi_picture.specs.declared.mark.Mark.{Mark}
use Rattle.edi_picture.specs.declared.mark.Mark.TheVariants.{Hidden}

-- a plan and the name of its file; and of each record the identifier, the mark, whether it is tinted if it is a face,
-- and what is written on it then
pub record DrawnSheet : Type 0 where
  pub plan : PlanData
  pub name : List ℕ
  pub identifiers : List (List ℕ)
  pub marks : List Mark
  pub tints : List Bool
  pub labels : List (List ℕ)

-- these of the record at a place
abbrev pub identifier_at : DrawnSheet → ℕ → List ℕ
identifier_at sheet k = slice_index_or sheet.identifiers k []

abbrev pub mark_at : DrawnSheet → ℕ → Mark
mark_at sheet k = slice_index_or sheet.marks k Hidden

abbrev pub tint_at : DrawnSheet → ℕ → Bool
tint_at sheet k = slice_index_or sheet.tints k false

abbrev pub label_at : DrawnSheet → ℕ → List ℕ
label_at sheet k = slice_index_or sheet.labels k []

-- the type and the identifier of a class
abbrev pub class_name : Classes → ℕ → Name
class_name s class = unwrap_or (class_name_at s class) (record { rty = []; rid = [] })

-- the points of all plans, and those of their arcs
abbrev pub all_points : List DrawnSheet → List Point
all_points sheets = flat_map (λ sheet. points_of sheet.plan) sheets

abbrev pub arc_points_of : PlanData → List Point
arc_points_of p = flat_map (λ k. (record_at p k).points) (places_of Par p)

abbrev pub arc_points : List DrawnSheet → List Point
arc_points sheets = flat_map (λ sheet. arc_points_of sheet.plan) sheets

abbrev pub AllHaveClasses : Classes → List DrawnSheet → Type 0
AllHaveClasses s sheets = AllByRecursion (λ sheet. HasClasses s sheet.plan) sheets
