-- Known sheets, and their pictures from the first byte to the last.
use Rattle.std.specs.Prelude.{◌≡◌, ◌↔◌, ℕ, true, false, List, [], ◌∷◌, ◌++◌, None, codes}
use Rattle.edi_record.specs.declared.record.Kind.TheVariants.{Pno, Par, Pfe, Lnk}
use Rattle.edi_record.specs.declared.record.Point.{Point}
use Rattle.edi_schema.specs.Classes.{Classes}
use Rattle.edi_schema.specs.declared.role.Role.{Role}
use Rattle.edi_schema.specs.declared.role.Role.TheVariants.{Plain, Initial, Final, Left, Right}
use Rattle.edi_plan.specs.Plans.{PlanData}
use Rattle.edi_plan.specs.declared.record.PlanRecord.{PlanRecord}
use Rattle.edi_picture.specs.Known.{known_point, named_class, pointed_record}
use Rattle.edi_picture.specs.Pictures.{IsPicture}
use Rattle.edi_picture.specs.Sheets.{DrawnSheet}
use Rattle.edi_picture.specs.declared.mark.Mark.TheVariants as mark

-- this text is a picture of these sheets, and no other text is
abbrev pub IsOnlyPicture : Classes → List DrawnSheet → List ℕ → Type 0
IsOnlyPicture s sheets picture = (text : List ℕ) → IsPicture s sheets text ↔ (text ≡ picture)

-- ---- a triangle: a node, an arc that goes round from it to it, and the face on the left of the arc

-- a schema with a class of each of the three, and one of each of the four kinds of links
abbrev pub triangle_classes : Classes
triangle_classes = named_class (codes "PGE") (codes "ARC_id") Plain ∷ named_class (codes "PGE") (codes "FAC_id") Plain
    ∷ named_class (codes "PGE") (codes "NOD_id") Plain ∷ named_class (codes "REL") (codes "DRT_id") Right
    ∷ named_class (codes "REL") (codes "FIN_id") Final ∷ named_class (codes "REL") (codes "GCH_id") Left
    ∷ named_class (codes "REL") (codes "INI_id") Initial ∷ []

-- a link of this class and role that has two ends and nothing else
abbrev pub link_of_two : ℕ → Role → ℕ → ℕ → PlanRecord
link_of_two class role a b = record {
  kind = Lnk;
  class = class;
  role = role;
  points = [];
  attributes = [];
  extras = [];
  ends = record { target = a; sns = None } ∷ record { target = b; sns = None } ∷ [];
}

-- the node is at 1;2, and the other corners are at 4;2 and at 4;6.5
abbrev pub first_corner : Point
first_corner = known_point 1000000 2000000

abbrev pub corners : List Point
corners = first_corner ∷ known_point 4000000 2000000 ∷ known_point 4000000 6500000 ∷ first_corner ∷ []

-- the three, and then the links of the arc to its initial node, its final node and the face
abbrev pub triangle_plan : PlanData
triangle_plan = record {
  cse = None;
  list = pointed_record Pno 2 (first_corner ∷ []) ∷ pointed_record Par 0 corners ∷ pointed_record Pfe 1 []
      ∷ link_of_two 6 Initial 1 0 ∷ link_of_two 4 Final 1 0 ∷ link_of_two 5 Left 1 2 ∷ [];
}

abbrev pub triangle_sheet : DrawnSheet
triangle_sheet = record {
  plan = triangle_plan;
  name = codes "sheet.vec";
  identifiers = codes "N1" ∷ codes "A1" ∷ codes "F1" ∷ codes "L1" ∷ codes "L2" ∷ codes "L3" ∷ [];
  marks = mark.Plain ∷ mark.Plain ∷ mark.Plain ∷ mark.Plain ∷ mark.Plain ∷ mark.Plain ∷ [];
  tints = [];
  labels = [] ∷ [] ∷ codes "A&12" ∷ [];
}

-- its picture, where it is drawn alone
abbrev pub triangle_picture : List ℕ
triangle_picture = codes "<svg xmlns='http://www.w3.org/2000/svg' font-family='sans-serif' font-size='14' viewBox='0 0"
    ++ codes " 1000 1300'>\n"
    ++ codes "<rect width='1000' height='1300' fill='white'/>\n"
    ++ codes "<text x='20' y='25'>sheet.vec</text>\n"
    ++ codes "<path fill='none' stroke='black' stroke-width='2' d='M970,30v-22m-5,8l5,-8l5,8'/>\n"
    ++ codes "<text x='965' y='46'>N</text>\n"
    ++ codes "<text x='20' y='50'>1 unit(s)</text>\n"
    ++ codes "<svg x='20' y='58' width='960' height='1200' overflow='visible' preserveAspectRatio='xMinYMin'"
    ++ codes " viewBox='0 0 3 4.5'>\n"
    ++ codes "<path fill='none' stroke='black' stroke-width='0.011253' d='M0,0h1'/>\n"
    ++ codes "</svg>\n"
    ++ codes "<svg x='20' y='68' width='960' height='1200' overflow='visible' preserveAspectRatio='xMinYMin'"
    ++ codes " viewBox='0 0 3 4.5'>\n"
    ++ codes "<g fill='none' fill-rule='evenodd' fill-opacity='0.5' pointer-events='all'>\n"
    ++ codes "<path d='M 0,4.5 3,4.5 3,0 0,4.5 0,4.5Z'><title>PFE F1 PGE;FAC_id</title></path>\n"
    ++ codes "</g>\n"
    ++ codes "<g fill='none' stroke-linejoin='round' stroke='#777777' stroke-width='0.003751'>\n"
    ++ codes "<polyline points=' 0,4.5 3,4.5 3,0 0,4.5'><title>PAR A1 PGE;ARC_id</title></polyline>\n"
    ++ codes "</g>\n"
    ++ codes "<g fill='none' stroke-linejoin='round' stroke='#0072B2' stroke-width='0.007502'>\n"
    ++ codes "</g>\n"
    ++ codes "<g fill='none' stroke-linejoin='round' stroke='#D55E00' stroke-width='0.007502'"
    ++ codes " stroke-dasharray='0.022506'>\n"
    ++ codes "</g>\n"
    ++ codes "<g fill='#777777' stroke='#777777' stroke-width='0.003751'>\n"
    ++ codes "<circle cx='0' cy='4.5' r='0.007502'><title>PNO N1 PGE;NOD_id</title></circle>\n"
    ++ codes "</g>\n"
    ++ codes "<g fill='white' stroke='#D55E00' stroke-width='0.003751'>\n"
    ++ codes "</g>\n"
    ++ codes "<g fill='#0072B2' stroke='#0072B2' stroke-width='0.003751'>\n"
    ++ codes "</g>\n"
    ++ codes "</svg>\n"
    ++ codes "<g text-anchor='middle' font-size='12'>\n"
    ++ codes "<text x='419' y='667' dy='0.35em'>A&amp;12</text>\n"
    ++ codes "</g>\n"
    ++ codes "</svg>\n"

-- ---- two sheets of nodes

-- a schema with boundary stones and other nodes
abbrev pub classes_of_nodes : Classes
classes_of_nodes =
    named_class (codes "PGE") (codes "BOR_id") Plain ∷ named_class (codes "PGE") (codes "NOD_id") Plain ∷ []

abbrev pub stone : ℕ → ℕ → PlanRecord
stone x y = pointed_record Pno 0 (known_point x y ∷ [])

abbrev pub known_node : ℕ → ℕ → PlanRecord
known_node x y = pointed_record Pno 1 (known_point x y ∷ [])

-- Of A the first node is in B too, the second isn't, and the stone has another position there.
abbrev pub nodes_of_a : DrawnSheet
nodes_of_a = record {
  plan = record { cse = None; list = known_node 0 0 ∷ known_node 10000000 0 ∷ stone 20000000 5000000 ∷ [] };
  name = codes "a.vec";
  identifiers = codes "N1" ∷ codes "N2" ∷ codes "N3" ∷ [];
  marks = mark.Plain ∷ mark.OnlyFirst ∷ mark.Before ∷ [];
  tints = [];
  labels = [];
}

-- Of B the stone is that of A; the first and the last node are new, and the one between them is the first of A, so that
-- it isn't drawn again.
abbrev pub nodes_of_b : DrawnSheet
nodes_of_b = record {
  plan = record {
    cse = None;
    list = stone 20000000 8000000 ∷ known_node 7250000 500000 ∷ known_node 0 0 ∷ known_node 3000000 8000000 ∷ [];
  };
  name = codes "b<2>.vec";
  identifiers = codes "M1" ∷ codes "M2" ∷ codes "M3" ∷ codes "M4" ∷ [];
  marks = mark.After ∷ mark.OnlySecond ∷ mark.Hidden ∷ mark.OnlySecond ∷ [];
  tints = [];
  labels = [];
}

-- the page of two sheets down to its bar, with its height, the line of the second sheet, and how long the bar is
abbrev pub top_of_two : List ℕ → List ℕ → List ℕ → List ℕ
top_of_two height second bar =
    codes "<svg xmlns='http://www.w3.org/2000/svg' font-family='sans-serif' font-size='14' viewBox='0 0 1000 "
    ++ height ++ codes "'>\n"
    ++ codes "<rect width='1000' height='" ++ height ++ codes "' fill='white'/>\n"
    ++ codes "<path fill='none' stroke-width='2' d='M20,20h30' stroke='#D55E00' stroke-dasharray='6'/>\n"
    ++ codes "<text x='60' y='25'>A: a.vec, records only here: 1</text>\n"
    ++ codes "<path fill='none' stroke-width='2' d='M20,40h30' stroke='#0072B2'/>\n"
    ++ codes "<text x='60' y='45'>B: " ++ second ++ codes "</text>\n"
    ++ codes "<path fill='none' stroke-width='2' d='M20,60h30' stroke='#777777'/>\n"
    ++ codes "<text x='60' y='65'>records changed: 1; grey: the same in both</text>\n"
    ++ codes "<rect x='20' y='73' width='30' height='14' fill='#F0E442' fill-opacity='0.5'/>\n"
    ++ codes "<text x='60' y='85'>an outline, an object or a link changed</text>\n"
    ++ codes "<path fill='none' stroke='black' stroke-width='2' d='M970,30v-22m-5,8l5,-8l5,8'/>\n"
    ++ codes "<text x='965' y='46'>N</text>\n"
    ++ codes "<text x='20' y='110'>" ++ bar ++ codes " unit(s)</text>\n"

-- their picture
abbrev pub picture_of_nodes : List ℕ
picture_of_nodes = top_of_two (codes "544") (codes "b&lt;2&gt;.vec, records only here: 2") (codes "10")
    ++ codes "<svg x='20' y='118' width='960' height='384' overflow='visible' preserveAspectRatio='xMinYMin'"
    ++ codes " viewBox='0 0 20 8'>\n"
    ++ codes "<path fill='none' stroke='black' stroke-width='0.062502' d='M0,0h10'/>\n"
    ++ codes "</svg>\n"
    ++ codes "<svg x='20' y='128' width='960' height='384' overflow='visible' preserveAspectRatio='xMinYMin'"
    ++ codes " viewBox='0 0 20 8'>\n"
    ++ codes "<g fill='none' fill-rule='evenodd' fill-opacity='0.5' pointer-events='all'>\n"
    ++ codes "</g>\n"
    ++ codes "<g fill='none' stroke-linejoin='round' stroke='#777777' stroke-width='0.020834'>\n"
    ++ codes "</g>\n"
    ++ codes "<g fill='none' stroke-linejoin='round' stroke='#0072B2' stroke-width='0.041668'>\n"
    ++ codes "</g>\n"
    ++ codes "<g fill='none' stroke-linejoin='round' stroke='#D55E00' stroke-width='0.041668'"
    ++ codes " stroke-dasharray='0.125004'>\n"
    ++ codes "</g>\n"
    ++ codes "<g fill='#777777' stroke='#777777' stroke-width='0.020834'>\n"
    ++ codes "<circle cx='0' cy='8' r='0.041668'><title>PNO N1 PGE;NOD_id</title></circle>\n"
    ++ codes "</g>\n"
    ++ codes "<g fill='white' stroke='#D55E00' stroke-width='0.020834'>\n"
    ++ codes "<circle cx='10' cy='8' r='0.10417'><title>PNO N2 PGE;NOD_id, only in A</title></circle>\n"
    ++ codes "<circle cx='20' cy='3' r='0.10417'><title>PNO N3 PGE;BOR_id, as it was in A</title></circle>\n"
    ++ codes "</g>\n"
    ++ codes "<g fill='#0072B2' stroke='#0072B2' stroke-width='0.020834'>\n"
    ++ codes "<circle cx='20' cy='0' r='0.062502'><title>PNO M1 PGE;BOR_id, as it is in B</title></circle>\n"
    ++ codes "<circle cx='7.25' cy='7.5' r='0.062502'><title>PNO M2 PGE;NOD_id, only in B</title></circle>\n"
    ++ codes "<circle cx='3' cy='0' r='0.062502'><title>PNO M4 PGE;NOD_id, only in B</title></circle>\n"
    ++ codes "</g>\n"
    ++ codes "</svg>\n"
    ++ codes "<g text-anchor='middle' font-size='12'>\n"
    ++ codes "</g>\n"
    ++ codes "</svg>\n"

-- ---- faces that are tinted

abbrev pub known_arc : List Point → PlanRecord
known_arc points = pointed_record Par 0 points

-- Of A the first arc goes round the first face, which B has not; it has another corner in B. The second arc doesn't
-- close, and the second face is on its left. A node lies far off.
abbrev pub faces_of_a : DrawnSheet
faces_of_a = record {
  plan = record {
    cse = None;
    list = pointed_record Pno 2 (known_point 500000000 0 ∷ [])
        ∷ known_arc (known_point 0 0 ∷ known_point 4000000 0 ∷ known_point 4000000 3000000 ∷ known_point 0 0 ∷ [])
        ∷ known_arc (known_point 4000000 0 ∷ known_point 8000000 0 ∷ []) ∷ pointed_record Pfe 1 []
        ∷ pointed_record Pfe 1 [] ∷ link_of_two 5 Left 1 3 ∷ link_of_two 5 Left 2 4 ∷ [];
  };
  name = codes "a.vec";
  identifiers = codes "N9" ∷ codes "A1" ∷ codes "A2" ∷ codes "F1" ∷ codes "F2" ∷ codes "L1" ∷ codes "L2" ∷ [];
  marks = mark.Plain ∷ mark.Before ∷ mark.Plain ∷ mark.OnlyFirst ∷ mark.Plain ∷ mark.Plain ∷ mark.Plain ∷ [];
  tints = false ∷ false ∷ false ∷ true ∷ true ∷ [];
  labels = [] ∷ [] ∷ [] ∷ codes "12" ∷ [];
}

abbrev pub faces_of_b : DrawnSheet
faces_of_b = record {
  plan = record {
    cse = None;
    list =
        known_arc (known_point 0 0 ∷ known_point 4000000 0 ∷ known_point 4000000 4000000 ∷ known_point 0 0 ∷ []) ∷ [];
  };
  name = codes "b.vec";
  identifiers = codes "B1" ∷ [];
  marks = mark.After ∷ [];
  tints = [];
  labels = [];
}

-- their picture
abbrev pub picture_of_faces : List ℕ
picture_of_faces = top_of_two (codes "640") (codes "b.vec, records only here: 0") (codes "1")
    ++ codes "<svg x='20' y='118' width='960' height='480' overflow='visible' preserveAspectRatio='xMinYMin'"
    ++ codes " viewBox='0 0 8 4'>\n"
    ++ codes "<path fill='none' stroke='black' stroke-width='0.025002' d='M0,0h1'/>\n"
    ++ codes "</svg>\n"
    ++ codes "<svg x='20' y='128' width='960' height='480' overflow='visible' preserveAspectRatio='xMinYMin'"
    ++ codes " viewBox='0 0 8 4'>\n"
    ++ codes "<g fill='none' fill-rule='evenodd' fill-opacity='0.5' pointer-events='all'>\n"
    ++ codes "<path fill='#F0E442' d='M 0,4 4,4 4,1 0,4 0,4Z'><title>PFE F1 PGE;FAC_id, only in"
    ++ codes " A</title></path>\n"
    ++ codes "<path fill='none' stroke='#F0E442' stroke-width='0.066672' d='M 4,4 8,4'><title>PFE F2"
    ++ codes " PGE;FAC_id, not filled, since its arcs do not close</title></path>\n"
    ++ codes "</g>\n"
    ++ codes "<g fill='none' stroke-linejoin='round' stroke='#777777' stroke-width='0.008334'>\n"
    ++ codes "<polyline points=' 4,4 8,4'><title>PAR A2 PGE;ARC_id</title></polyline>\n"
    ++ codes "</g>\n"
    ++ codes "<g fill='none' stroke-linejoin='round' stroke='#0072B2' stroke-width='0.016668'>\n"
    ++ codes "<polyline points=' 0,4 4,4 4,0 0,4'><title>PAR B1 PGE;ARC_id, as it is in B</title></polyline>\n"
    ++ codes "</g>\n"
    ++ codes "<g fill='none' stroke-linejoin='round' stroke='#D55E00' stroke-width='0.016668'"
    ++ codes " stroke-dasharray='0.050004'>\n"
    ++ codes "<polyline points=' 0,4 4,4 4,1 0,4'><title>PAR A1 PGE;ARC_id, as it was in A</title></polyline>\n"
    ++ codes "</g>\n"
    ++ codes "<g fill='#777777' stroke='#777777' stroke-width='0.008334'>\n"
    ++ codes "</g>\n"
    ++ codes "<g fill='white' stroke='#D55E00' stroke-width='0.008334'>\n"
    ++ codes "</g>\n"
    ++ codes "<g fill='#0072B2' stroke='#0072B2' stroke-width='0.008334'>\n"
    ++ codes "</g>\n"
    ++ codes "</svg>\n"
    ++ codes "<g text-anchor='middle' font-size='12'>\n"
    ++ codes "<text x='259' y='427' dy='0.35em'>12</text>\n"
    ++ codes "</g>\n"
    ++ codes "<text x='20' y='630'>far off: PNO N9 PGE;NOD_id;</text>\n"
    ++ codes "</svg>\n"

-- ---- a sheet without records

abbrev pub blank_sheet : DrawnSheet
blank_sheet = record {
  plan = record { cse = None; list = [] };
  name = codes "sheet.vec";
  identifiers = [];
  marks = [];
  tints = [];
  labels = [];
}

-- its picture: the page with the name of the file
abbrev pub blank_picture : List ℕ
blank_picture = codes "<svg xmlns='http://www.w3.org/2000/svg' font-family='sans-serif' font-size='14' viewBox='0 0"
    ++ codes " 1000 40'>\n"
    ++ codes "<rect width='1000' height='40' fill='white'/>\n"
    ++ codes "<text x='20' y='25'>sheet.vec</text>\n"
    ++ codes "</svg>\n"
