-- What the text calls records, and how it tells that a node, an arc or a face differs.
use Rattle.std.specs.Prelude.{ℕ, ◌-◌, ◌==◌, nat_lt, false, List, [], ◌∷◌, ◌++◌, Option, Some, None, codes, decimal, length, take, slice_index_or, if◌then◌else◌, ℤ, pos}
use Rattle.std.specs.List.{flat_map}
use Rattle.edi_line.specs.Bytes.{line_feed}
use Rattle.edi_line.specs.Number.{plain_text, size_text}
use Rattle.edi_record.specs.declared.record.Kind.{Kind}
use Rattle.edi_record.specs.declared.record.Kind.TheVariants.{Pno, Par, Pfe, Fea, Lnk}
use Rattle.edi_record.specs.declared.record.Point.{Point}
use Rattle.edi_plan.specs.Places.{places_of}
use Rattle.edi_plan.specs.Plans.{record_at}
use Rattle.edi_plan.specs.Sides.{targets}
use Rattle.edi_plan.specs.declared.record.PlanRecord.{PlanRecord}
use Rattle.edi_report.specs.Lines.{both_lines, is_reached, words_text}
use Rattle.edi_report.specs.Reports.{Report, parts_at, site_at}
use Rattle.edi_report.specs.declared.parts.DifferingParts.{DifferingParts}
use Rattle.edi_report.specs.declared.sheet.LocatedSheet.{LocatedSheet}
use Rattle.edi_objects.specs.Differing.{became_of, is_differing}
use Rattle.edi_objects.specs.Distances.{distance_of_first, farthest, side_by_side, unlike_count}
use Rattle.edi_objects.specs.Names.{Naming, shown_class, object_name}

-- ---- names

-- the third coordinate, where there is one
abbrev pub third_coordinate_text : Option ℤ → List ℕ
third_coordinate_text None = []
third_coordinate_text (Some z) = codes ";" ++ plain_text z

-- X;Y or X;Y;Z
abbrev pub coordinates_text : Point → List ℕ
coordinates_text p = plain_text p.x ++ codes ";" ++ plain_text p.y ++ third_coordinate_text p.z

abbrev pub first_position : List Point → List ℕ
first_position [] = []
first_position (p ∷ points) = codes " " ++ coordinates_text p

abbrev pub origin_point : Point
origin_point = record { x = pos 0; y = pos 0; z = None }

-- the last of two points or more
abbrev pub last_position : List Point → List ℕ
last_position points =
    if nat_lt 1 (length points)
    then codes " .. " ++ coordinates_text (slice_index_or points (length points - 1) origin_point)
    else []

-- an object by its class and the attributes that name it, a link by its class, a node by its position, an arc by its
-- first and its last
abbrev pub name_by : Naming → Kind → PlanRecord → List ℕ
name_by n Pno r = codes "node" ++ first_position r.points
name_by n Par r = codes "arc" ++ first_position r.points ++ last_position r.points
name_by n Pfe r = codes "face"
name_by n Fea r = object_name n r
name_by n Lnk r = codes "link " ++ shown_class n.classes r.class

abbrev pub name_of_record : Naming → LocatedSheet → ℕ → List ℕ
name_of_record n sheet k = name_by n (record_at sheet.accepted k).kind (record_at sheet.accepted k)

-- NAME (line LINE)
unfoldable pub element_text : Naming → LocatedSheet → ℕ → List ℕ
element_text n sheet k = name_of_record n sheet k ++ codes " (line " ++ decimal (site_at sheet k).line ++ codes ")"

-- of how many of the records that a link names the text says which
abbrev pub most_named : ℕ
most_named = 4

abbrev pub other_text : Naming → LocatedSheet → Option ℕ → ℕ → List ℕ
other_text n sheet None k = codes " " ++ element_text n sheet k
other_text n sheet (Some place) k = if k == place then [] else codes " " ++ element_text n sheet k

-- that there are more
abbrev pub more_text : ℕ → List ℕ
more_text count = if nat_lt most_named count then codes " and others" else []

-- what a link names, beside the record at a place if one is given
abbrev pub others_text : Naming → LocatedSheet → Option ℕ → PlanRecord → List ℕ
others_text n sheet place r =
    flat_map (other_text n sheet place) (take most_named (targets r)) ++ more_text (length r.ends)

-- ---- how they differ

-- how many points of an arc differ, of how many, and by how much at most; or how many it had, and how many it has
abbrev pub arc_change : List Point → List Point → List ℕ
arc_change a b =
    if length a == length b
    then codes " points (" ++ decimal (unlike_count (side_by_side a b)) ++ codes " of " ++ decimal (length a)
    ++ codes ", by at most " ++ size_text (farthest (side_by_side a b)) ++ codes ")"
    else codes " points (" ++ decimal (length a) ++ codes ", then " ++ decimal (length b) ++ codes ")"

-- where a node went, and how far
abbrev pub node_change : List Point → List Point → List ℕ
node_change a b =
    codes " points (to" ++ first_position b ++ codes ", by " ++ size_text (distance_of_first a b) ++ codes ")"

-- how the points of a record became those of another
abbrev pub points_change : Kind → List Point → List Point → List ℕ
points_change Pno a b = node_change a b
points_change Par a b = arc_change a b
points_change Pfe a b = []
points_change Fea a b = []
points_change Lnk a b = []

-- the words for the parts that differ, and how the points do
abbrev pub change_text : DifferingParts → PlanRecord → PlanRecord → List ℕ
change_text parts a b = words_text (record parts { points = false })
    ++ (if parts.points then points_change a.kind a.points b.points else [])

-- ~ NAME (lines LINE and LINE): and how it differs
abbrev pub changed_element : Naming → Report → ℕ → ℕ → List ℕ
changed_element n r i j =
    codes "~ " ++ name_of_record n r.first i ++ both_lines (site_at r.first i).line (site_at r.second j).line
    ++ change_text (parts_at r.parts i) (record_at r.first.accepted i) (record_at r.second.accepted j) ++ line_feed ∷ []

-- a sign, NAME (line LINE)
abbrev pub lone_element : List ℕ → Naming → LocatedSheet → ℕ → List ℕ
lone_element sign n sheet k = sign ++ element_text n sheet k ++ line_feed ∷ []

abbrev pub line_of_element : Naming → Report → ℕ → Option ℕ → List ℕ
line_of_element n r i None = lone_element (codes "- ") n r.first i
line_of_element n r i (Some j) = changed_element n r i j

-- the line of a node, an arc or a face of the first sheet, if it differs, and of one of the second, if it is new
abbrev pub first_element : Naming → Report → ℕ → List ℕ
first_element n r i = if is_differing r i then line_of_element n r i (became_of r i) else []

abbrev pub second_element : Naming → Report → ℕ → List ℕ
second_element n r j = if is_reached r.became j then [] else lone_element (codes "+ ") n r.second j

-- the lines of a type: those of the first sheet, and those of the second
abbrev pub first_elements : Naming → Report → Kind → List ℕ
first_elements n r kind = flat_map (first_element n r) (places_of kind r.first.accepted)

abbrev pub second_elements : Naming → Report → Kind → List ℕ
second_elements n r kind = flat_map (second_element n r) (places_of kind r.second.accepted)

abbrev pub elements_of : Naming → Report → Kind → List ℕ
elements_of n r kind = first_elements n r kind ++ second_elements n r kind
