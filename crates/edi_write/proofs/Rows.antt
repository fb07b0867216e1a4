-- Known files against the layout.
use Rattle.std.specs.Prelude.{◌≡◌, ℕ, pos, true, false, List, [], ◌∷◌, ◌++◌, Some, None, codes, refl, flat_map}
use Rattle.std.specs.Fmt.{digits}
use Rattle.edi_record.specs.declared.name.Name.{Name}
use Rattle.edi_record.specs.declared.record.Kind.{Kind}
use Rattle.edi_record.specs.declared.record.Kind.TheVariants.{Pno, Par, Fea, Lnk}
use Rattle.edi_record.specs.declared.record.Point.{Point}
use Rattle.edi_schema.specs.declared.role.Role.{Role}
use Rattle.edi_schema.specs.declared.role.Role.TheVariants.{Plain, Initial, Final, Left, Right}
use Rattle.edi_schema.specs.declared.class.Class.{Class}
use Rattle.edi_schema.specs.Classes.{Classes}
use Rattle.edi_plan.specs.Plans.{PlanData}
use Rattle.edi_plan.specs.declared.record.PlanRecord.{PlanRecord}
use Rattle.edi_line.specs.Number.{fraction_digits, size_text}
use Rattle.edi_line.specs.inner.Number.{whole_number, fraction_number, number}
use Rattle.edi_line.specs.Printing.{printed_zone, broken_into, content_text, line_text, next_zone}
use Rattle.edi_record.specs.CanonicalZones.{class_text}
use Rattle.edi_record.specs.Texts.{pointer_text, point_text}
use Rattle.edi_record.specs.inner.Texts.{pointer}
use Rattle.edi_rank.specs.Arranged.{arranged}
use Rattle.edi_rank.specs.Labelling.{Labelling}
use Rattle.edi_write.specs.Layout.{layout}

abbrev lines : List (List ℕ) → List ℕ
lines ls = flat_map (λ l. l ++ 13 ∷ 10 ∷ []) ls

abbrev class : List ℕ → List ℕ → Role → Name × Class
class rty rid role = (record { rty = rty; rid = rid }, record { role = role; letter = 65; is_number = false })

-- the classes of these files, in the order of their names
abbrev known_schema : Classes
known_schema = class (codes "PGE") (codes "ARC_id") Plain ∷ class (codes "PGE") (codes "FAC_id") Plain ∷ class (codes "PGE") (codes "NOD_id") Plain
    ∷ class (codes "REL") (codes "DRT_id") Right ∷ class (codes "REL") (codes "FIN_id") Final ∷ class (codes "REL") (codes "GCH_id") Left ∷ class (codes "REL") (codes "INI_id") Initial ∷ []

abbrev point : ℕ → ℕ → Point
point x y = record { x = pos x; y = pos y; z = None }

abbrev bare : Kind → ℕ → List Point → PlanRecord
bare kind class points = record { kind = kind; class = class; role = Plain; points = points; attributes = []; extras = []; ends = [] }

abbrev link : ℕ → Role → ℕ → ℕ → PlanRecord
link class role a b = record { kind = Lnk; class = class; role = role; points = []; attributes = []; extras = []; ends = (record { target = a; sns = None }) ∷ (record { target = b; sns = None }) ∷ [] }

-- one node
abbrev node_sheet : PlanData
node_sheet = record { cse = Some (codes "IRV"); list = bare Pno 2 (point 10500000 20000000 ∷ []) ∷ [] }

node_sheet_file : layout known_schema node_sheet ≡ lines (codes "BOMT 09:CANON.VEC" ∷ codes "CSET 03:IRV" ∷ codes "RTYSA03:PNO" ∷ codes "RIDSA02:N1"
    ∷ codes "SCPCP19:CANON;SD;PGE;NOD_id" ∷ codes "CORCC10:+10.5;+20;" ∷ codes "ATCSN01:0" ∷ codes "EOMT 00:" ∷ [])
unfolding layout printed_zone broken_into content_text line_text next_zone pointer_text point_text digits fraction_digits size_text whole_number fraction_number number
node_sheet_file = refl

-- nothing
empty_sheet_file : layout known_schema (record { cse = None; list = [] }) ≡ lines (codes "BOMT 09:CANON.VEC" ∷ codes "EOMT 00:" ∷ [])
unfolding layout printed_zone broken_into content_text line_text next_zone pointer_text point_text digits fraction_digits size_text whole_number fraction_number number
empty_sheet_file = refl

-- a node, and an arc from it to it
abbrev looped_arc : PlanData
looped_arc = record {
  cse = None;
  list = bare Pno 2 (point 0 0 ∷ []) ∷ bare Par 0 (point 0 0 ∷ point 0 1000000 ∷ point 1000000 0 ∷ point 0 0 ∷ [])
      ∷ link 4 Final 1 0 ∷ link 6 Initial 1 0 ∷ [];
}

looped_arc_file : layout known_schema looped_arc ≡ lines (codes "BOMT 09:CANON.VEC" ∷ codes "RTYSA03:PNO" ∷ codes "RIDSA02:N1" ∷ codes "SCPCP19:CANON;SD;PGE;NOD_id"
    ∷ codes "CORCC06:+0;+0;" ∷ codes "ATCSN01:0" ∷ codes "RTYSA03:PAR" ∷ codes "RIDSA02:A1" ∷ codes "SCPCP19:CANON;SD;PGE;ARC_id" ∷ codes "PTCSN01:4"
    ∷ codes "CORCC06:+0;+0;" ∷ codes "CORCC06:+0;+1;" ∷ codes "CORCC06:+1;+0;" ∷ codes "CORCC06:+0;+0;" ∷ codes "ATCSN01:0"
    ∷ codes "RTYSA03:LNK" ∷ codes "RIDSA02:L1" ∷ codes "SCPCP19:CANON;SD;REL;FIN_id" ∷ codes "FTCSN01:2" ∷ codes "FTPCP14:CANON;S;PAR;A1" ∷ codes "FTPCP14:CANON;S;PNO;N1" ∷ codes "ATCSN01:0"
    ∷ codes "RTYSA03:LNK" ∷ codes "RIDSA02:L2" ∷ codes "SCPCP19:CANON;SD;REL;INI_id" ∷ codes "FTCSN01:2" ∷ codes "FTPCP14:CANON;S;PAR;A1" ∷ codes "FTPCP14:CANON;S;PNO;N1" ∷ codes "ATCSN01:0"
    ∷ codes "EOMT 00:" ∷ [])
unfolding layout printed_zone broken_into content_text line_text next_zone pointer_text point_text digits fraction_digits size_text whole_number fraction_number number
looped_arc_file = refl

-- the same arc backwards, with its links exchanged, and the records in another order
abbrev backward_arc : PlanData
backward_arc = record {
  cse = None;
  list = link 6 Initial 1 2 ∷ bare Par 0 (point 0 0 ∷ point 1000000 0 ∷ point 0 1000000 ∷ point 0 0 ∷ []) ∷ bare Pno 2 (point 0 0 ∷ []) ∷ link 4 Final 1 2 ∷ [];
}

abbrev backward_labels : Labelling
backward_labels = record { numbers = 1 ∷ 1 ∷ 1 ∷ 2 ∷ []; turned = false ∷ true ∷ false ∷ false ∷ []; others = [] ∷ [] ∷ [] ∷ [] ∷ []; nodes = 2 ∷ []; arcs = 1 ∷ []; faces = []; objects = []; links = 0 ∷ 3 ∷ [] }

backward_arc_turned : arranged known_schema backward_labels backward_arc ≡ looped_arc
backward_arc_turned = refl

-- an object and two nodes, joined by a link whose first end is the object
abbrev joined_nodes : PlanData
joined_nodes = record {
  cse = None;
  list = bare Pno 1 (point 1000000 1000000 ∷ []) ∷ bare Pno 1 (point 0 0 ∷ []) ∷ bare Fea 0 [] ∷ record {
    kind = Lnk;
    class = 2;
    role = Plain;
    points = [];
    attributes = [];
    extras = [];
    ends = (record { target = 2; sns = None }) ∷ (record { target = 0; sns = None }) ∷ (record { target = 1; sns = Some (codes "+") }) ∷ [];
  } ∷ [];
}

abbrev joined_schema : Classes
joined_schema = class (codes "OBJ") (codes "BAT_id") Plain ∷ class (codes "PGE") (codes "NOD_id") Plain ∷ class (codes "REL") (codes "SEM_id") Plain ∷ []

abbrev joined_labels : Labelling
joined_labels = record { numbers = 2 ∷ 1 ∷ 1 ∷ 1 ∷ []; turned = false ∷ false ∷ false ∷ false ∷ []; others = [] ∷ [] ∷ [] ∷ (1 ∷ 0 ∷ []) ∷ []; nodes = 1 ∷ 0 ∷ []; arcs = []; faces = []; objects = 2 ∷ []; links = 3 ∷ [] }

joined_nodes_file : layout joined_schema (arranged joined_schema joined_labels joined_nodes) ≡ lines (codes "BOMT 09:CANON.VEC"
    ∷ codes "RTYSA03:PNO" ∷ codes "RIDSA02:N1" ∷ codes "SCPCP19:CANON;SD;PGE;NOD_id" ∷ codes "CORCC06:+0;+0;" ∷ codes "ATCSN01:0"
    ∷ codes "RTYSA03:PNO" ∷ codes "RIDSA02:N2" ∷ codes "SCPCP19:CANON;SD;PGE;NOD_id" ∷ codes "CORCC06:+1;+1;" ∷ codes "ATCSN01:0"
    ∷ codes "RTYSA03:FEA" ∷ codes "RIDSA02:O1" ∷ codes "SCPCP19:CANON;SD;OBJ;BAT_id" ∷ codes "ATCSN01:0"
    ∷ codes "RTYSA03:LNK" ∷ codes "RIDSA02:L1" ∷ codes "SCPCP19:CANON;SD;REL;SEM_id" ∷ codes "FTCSN01:3" ∷ codes "FTPCP14:CANON;S;FEA;O1"
    ∷ codes "FTPCP14:CANON;S;PNO;N1" ∷ codes "SNSSA01:+" ∷ codes "FTPCP14:CANON;S;PNO;N2" ∷ codes "ATCSN01:0"
    ∷ codes "EOMT 00:" ∷ [])
unfolding layout printed_zone broken_into content_text line_text next_zone pointer_text point_text digits fraction_digits size_text whole_number fraction_number number
joined_nodes_file = refl

-- why a class of the four kinds needs a type without a semicolon: the pointer to it would have five parts
semicolon_in_type : pointer (class_text (record { rty = codes "R;L"; rid = codes "FIN_id" })) ≡ None
unfolding pointer pointer_text
semicolon_in_type = refl
