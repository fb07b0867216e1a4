-- What is drawn of faces.
use Rattle.std.specs.Prelude.{ℕ, ◌==◌, ◌&&◌, ◌||◌, ◌-◌, ◌%◌, Bool, true, false, not, List, [], ◌∷◌, ◌++◌, take, drop, length, count_by, if◌then◌else◌, codes}
use Rattle.std.specs.List.{filter, flat_map, list_all, list_any}
use Rattle.edi_record.specs.declared.record.Kind.TheVariants.{Par, Pfe}
use Rattle.edi_record.specs.declared.record.Point.{Point}
use Rattle.edi_schema.specs.Classes.{Classes}
use Rattle.edi_schema.specs.Roles.{same_role}
use Rattle.edi_schema.specs.declared.role.Role.{Role}
use Rattle.edi_schema.specs.declared.role.Role.TheVariants.{Left, Right}
use Rattle.edi_plan.specs.Places.{places_of}
use Rattle.edi_record.specs.Records.{is_link}
use Rattle.edi_plan.specs.Plans.{PlanData, is_arc, record_at}
use Rattle.edi_plan.specs.Sides.{targets}
use Rattle.edi_plan.specs.declared.record.PlanRecord.{PlanRecord}
use Rattle.edi_plan.specs.declared.extent.Extent.{Extent}
use Rattle.edi_picture.specs.Elements.{spot_text, spots_text}
use Rattle.edi_picture.specs.Frames.{distance, pixels}
use Rattle.edi_picture.specs.Marks.{same_mark}
use Rattle.edi_picture.specs.declared.mark.Mark.TheVariants.{Hidden}
use Rattle.edi_picture.specs.Sheets.{DrawnSheet, mark_at, tint_at}
use Rattle.edi_picture.specs.Titles.{title_text}

-- ---- the arcs round a face

-- these are the two, in either order
abbrev pub are_two : ℕ → ℕ → List ℕ → Bool
are_two a k [] = false
are_two a k (d ∷ []) = false
are_two a k (d ∷ e ∷ []) = ((d == a) && (e == k)) || ((d == k) && (e == a))
are_two a k (d ∷ e ∷ f ∷ ends) = false

-- a record is a link of this role with these two ends
abbrev pub links : Role → ℕ → ℕ → PlanRecord → Bool
links role a k r = is_link r.kind && (same_role r.role role && are_two a k (targets r))

-- the arc at the place a has the face at the place k on this side: some link of that role has the two ends
abbrev pub is_beside : PlanData → Role → ℕ → ℕ → Bool
is_beside p role a k = is_arc (record_at p a).kind && list_any (links role a k) p.list

-- the arc has the face on one of its sides, and not on both
abbrev pub bounds : PlanData → ℕ → ℕ → Bool
bounds p k a = if is_beside p Left a k then not (is_beside p Right a k) else is_beside p Right a k

-- the arcs round a face, in file order
abbrev pub arcs_round : PlanData → ℕ → List ℕ
arcs_round p k = filter (bounds p k) (places_of Par p)

-- ---- whether they close

-- the first and the last of some points
abbrev pub tips : List Point → List Point
tips points = take 1 points ++ drop (length points - 1) points

-- the ends of some arcs
abbrev pub ends_of : PlanData → List ℕ → List Point
ends_of p arcs = flat_map (λ a. tips (record_at p a).points) arcs

-- two points have one x and one y
abbrev pub same_spot : Point → Point → Bool
same_spot a b = (distance a.x b.x == 0) && (distance a.y b.y == 0)

-- At each end an even number of arcs ends, so that the arcs go round in rings, each arc in one of them.
abbrev pub form_rings : List Point → Bool
form_rings ends = list_all (λ q. count_by (same_spot q) ends % 2 == 0) ends

-- ---- what is drawn

-- An arc, with lines from its end to the base and from there to its begin. Of some arcs that close, what is inside of
-- an odd number of these is what is inside of their rings: there are two or another even number of lines from each end
-- to the base.
abbrev pub fan_text : Extent → DrawnSheet → Point → ℕ → List ℕ
fan_text f sheet base a = codes "M" ++ spots_text f sheet a ++ spot_text f base ++ codes "Z"

-- a face is yellow where it is tinted; where it isn't, the pointer finds its title all the same
abbrev pub fill_text : Bool → List ℕ
fill_text true = codes "<path fill='#F0E442' d='"
fill_text false = codes "<path d='"

-- the title of a face, with these words, and the end of its path
abbrev pub face_end : Classes → DrawnSheet → ℕ → List ℕ → List ℕ
face_end s sheet k words = codes "'>" ++ title_text s sheet k words ++ codes "</path>\n"

-- a face whose arcs close
abbrev pub closed_face : Classes → Extent → DrawnSheet → ℕ → Point → List ℕ → List ℕ
closed_face s f sheet k base arcs =
    fill_text (tint_at sheet k) ++ flat_map (fan_text f sheet base) arcs ++ face_end s sheet k []

-- of a tinted face whose arcs don't close a band along each
abbrev pub band_text : Extent → DrawnSheet → ℕ → List ℕ
band_text f sheet a = codes "M" ++ spots_text f sheet a

abbrev pub bands_begin : Extent → List ℕ
bands_begin f = codes "<path fill='none' stroke='#F0E442' stroke-width='" ++ pixels f 8 ++ codes "' d='"

abbrev pub bands : Classes → Extent → DrawnSheet → ℕ → List ℕ → List ℕ
bands s f sheet k arcs = bands_begin f ++ flat_map (band_text f sheet) arcs
    ++ face_end s sheet k (codes ", not filled, since its arcs do not close")

abbrev pub open_face : Classes → Extent → DrawnSheet → ℕ → List ℕ → List ℕ
open_face s f sheet k arcs = if tint_at sheet k then bands s f sheet k arcs else []

-- a face by the ends of the arcs, the first of which is the base: nothing where there is no arc
abbrev pub face_by_ends : Classes → Extent → DrawnSheet → ℕ → List ℕ → List Point → List ℕ
face_by_ends s f sheet k arcs [] = []
face_by_ends s f sheet k arcs (base ∷ ends) =
    if form_rings (base ∷ ends) then closed_face s f sheet k base arcs else open_face s f sheet k arcs

-- what is drawn of a face: nothing where its mark hides it
abbrev pub face_text : Classes → Extent → DrawnSheet → ℕ → List ℕ
face_text s f sheet k =
    if same_mark Hidden (mark_at sheet k) then []
    else face_by_ends s f sheet k (arcs_round sheet.plan k) (ends_of sheet.plan (arcs_round sheet.plan k))

-- the faces of a sheet, in file order
abbrev pub faces_of : Classes → Extent → DrawnSheet → List ℕ
faces_of s f sheet = flat_map (face_text s f sheet) (places_of Pfe sheet.plan)
