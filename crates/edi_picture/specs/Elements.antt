-- What is drawn of the records of a sheet.
use Rattle.std.specs.Prelude.{ℕ, List, [], ◌++◌, if◌then◌else◌, codes}
use Rattle.std.specs.List.{flat_map}
use Rattle.edi_line.specs.Number.{size_text}
use Rattle.edi_record.specs.declared.record.Kind.{Kind}
use Rattle.edi_record.specs.declared.record.Kind.TheVariants.{Pno, Par}
use Rattle.edi_record.specs.declared.record.Point.{Point}
use Rattle.edi_schema.specs.Classes.{Classes}
use Rattle.edi_plan.specs.Places.{places_of}
use Rattle.edi_plan.specs.Plans.{record_at}
use Rattle.edi_plan.specs.declared.extent.Extent.{Extent}
use Rattle.edi_picture.specs.Frames.{distance, is_outside, pixels}
use Rattle.edi_picture.specs.Marks.{is_drawn_in, node_radius}
use Rattle.edi_picture.specs.Sheets.{DrawnSheet, mark_at}
use Rattle.edi_picture.specs.Titles.{title_text}
use Rattle.edi_picture.specs.declared.mark.Ink.{Ink}

-- a point: as far to the right of the least x and as far below the greatest y as it is
abbrev pub across_text : Extent → Point → List ℕ
across_text f q = size_text (distance q.x f.x.least)

abbrev pub down_text : Extent → Point → List ℕ
down_text f q = size_text (distance f.y.greatest q.y)

abbrev pub spot_text : Extent → Point → List ℕ
spot_text f q = codes " " ++ across_text f q ++ codes "," ++ down_text f q

-- all points of a record
abbrev pub spots_text : Extent → DrawnSheet → ℕ → List ℕ
spots_text f sheet k = flat_map (spot_text f) (record_at sheet.plan k).points

-- ---- arcs

-- an arc as a line through its points
abbrev pub arc_element : Classes → Extent → DrawnSheet → ℕ → List ℕ
arc_element s f sheet k =
    codes "<polyline points='" ++ spots_text f sheet k ++ codes "'>" ++ title_text s sheet k [] ++ codes "</polyline>\n"

-- ---- nodes

-- the middle of a dot, and how large it is
abbrev pub dot_place : Extent → Point → List ℕ
dot_place f q = codes "<circle cx='" ++ across_text f q ++ codes "' cy='" ++ down_text f q

abbrev pub dot_size : Extent → Ink → List ℕ
dot_size f ink = codes "' r='" ++ pixels f (node_radius ink) ++ codes "'>"

abbrev pub dot_element : Classes → Extent → Ink → DrawnSheet → ℕ → Point → List ℕ
dot_element s f ink sheet k q =
    dot_place f q ++ dot_size f ink ++ title_text s sheet k [] ++ codes "</circle>\n"

-- a node as a dot, if it lies in the frame
abbrev pub dot_text : Classes → Extent → Ink → DrawnSheet → ℕ → Point → List ℕ
dot_text s f ink sheet k q = if is_outside f q then [] else dot_element s f ink sheet k q

-- ---- records of a type

-- an arc as a line, a node as its dots
abbrev pub element : Kind → Classes → Extent → Ink → DrawnSheet → ℕ → List ℕ
element Par s f ink sheet k = arc_element s f sheet k
element Pno s f ink sheet k = flat_map (dot_text s f ink sheet k) (record_at sheet.plan k).points
element _ s f ink sheet k = []

-- what is drawn of a record in an ink
abbrev pub record_text : Kind → Classes → Extent → Ink → DrawnSheet → ℕ → List ℕ
record_text kind s f ink sheet k = if is_drawn_in ink (mark_at sheet k) then element kind s f ink sheet k else []

-- the records of a type of a sheet, in file order
abbrev pub drawn_records : Kind → Classes → Extent → Ink → DrawnSheet → List ℕ
drawn_records kind s f ink sheet = flat_map (record_text kind s f ink sheet) (places_of kind sheet.plan)
