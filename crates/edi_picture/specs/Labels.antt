-- What is written on faces.
use Rattle.std.specs.Prelude.{ℕ, ◌+◌, ◌-◌, ◌/◌, ◌==◌, ◌&&◌, Bool, not, min, max, List, [], ◌∷◌, ◌++◌, codes, decimal, fold, length, map, if◌then◌else◌}
use Rattle.std.specs.List.{flat_map}
use Rattle.edi_record.specs.declared.record.Kind.TheVariants.{Pfe}
use Rattle.edi_record.specs.declared.record.Point.{Point}
use Rattle.edi_plan.specs.Places.{places_of}
use Rattle.edi_plan.specs.Plans.{PlanData, record_at}
use Rattle.edi_plan.specs.declared.extent.Extent.{Extent}
use Rattle.edi_picture.specs.Faces.{arcs_round}
use Rattle.edi_picture.specs.Frames.{distance, pixel}
use Rattle.edi_picture.specs.Marks.{same_mark}
use Rattle.edi_picture.specs.declared.mark.Mark.TheVariants.{Hidden}
use Rattle.edi_picture.specs.Sheets.{DrawnSheet, label_at, mark_at}
use Rattle.edi_picture.specs.Titles.{escaped_text}

-- the points of the arcs round a face
abbrev pub points_round : PlanData → ℕ → List Point
points_round p k = flat_map (λ a. (record_at p a).points) (arcs_round p k)

-- the middle between two numbers
abbrev pub midway : ℕ → ℕ → ℕ
midway least greatest = least + (greatest - least) / 2

-- the middle between the least and the greatest of some numbers
abbrev pub middle : List ℕ → ℕ
middle [] = 0
middle (n ∷ ns) = midway (fold min n ns) (fold max n ns)

-- how far the middle of some points is to the right of the least x of the frame, and how far below the greatest y
abbrev pub middle_across : Extent → List Point → ℕ
middle_across f points = middle (map (λ q. distance q.x f.x.least) points)

abbrev pub middle_down : Extent → List Point → ℕ
middle_down f points = middle (map (λ q. distance f.y.greatest q.y) points)

-- where the middle of some points is on the page, where the frame begins so far below the top
abbrev pub page_across : Extent → List Point → ℕ
page_across f points = 20 + min 960 (middle_across f points / pixel f)

abbrev pub page_down : Extent → ℕ → List Point → ℕ
page_down f top points = top + min 1200 (middle_down f points / pixel f)

abbrev pub label_place : Extent → ℕ → List Point → List ℕ
label_place f top points =
    codes "<text x='" ++ decimal (page_across f points) ++ codes "' y='" ++ decimal (page_down f top points)

-- words there
abbrev pub label_element : Extent → ℕ → List Point → List ℕ → List ℕ
label_element f top points label =
    label_place f top points ++ codes "' dy='0.35em'>" ++ escaped_text label ++ codes "</text>\n"

-- nothing where there are no points
abbrev pub label_amid : Extent → ℕ → List Point → List ℕ → List ℕ
label_amid f top [] label = []
label_amid f top (q ∷ points) label = label_element f top (q ∷ points) label

abbrev pub has_label : DrawnSheet → ℕ → Bool
has_label sheet k = not (same_mark Hidden (mark_at sheet k)) && not (length (label_at sheet k) == 0)

-- what is written on a face, amid the points of its arcs
abbrev pub label_text : Extent → ℕ → DrawnSheet → ℕ → List ℕ
label_text f top sheet k =
    if has_label sheet k then label_amid f top (points_round sheet.plan k) (label_at sheet k) else []

-- and on all faces of a sheet, in file order
abbrev pub sheet_labels : Extent → ℕ → DrawnSheet → List ℕ
sheet_labels f top sheet = flat_map (label_text f top sheet) (places_of Pfe sheet.plan)
