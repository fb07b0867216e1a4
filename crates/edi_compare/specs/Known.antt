-- Known sheets, their plans and their canonical files.
use Rattle.std.specs.Prelude.{ℕ, pos, true, false, List, [], ◌∷◌, ◌++◌, Some, None, codes, flat_map}
use Rattle.edi_record.specs.declared.name.Name.{Name}
use Rattle.edi_record.specs.declared.record.Kind.{Kind}
use Rattle.edi_record.specs.declared.record.Kind.TheVariants.{Pno, Par, Pfe, Fea, Lnk}
use Rattle.edi_record.specs.declared.record.Point.{Point}
use Rattle.edi_record.specs.Rows.{line, one_node}
use Rattle.edi_schema.specs.declared.role.Role.{Role}
use Rattle.edi_schema.specs.declared.role.Role.TheVariants.{Plain, Initial, Final, Left, Right}
use Rattle.edi_schema.specs.declared.class.Class.{Class}
use Rattle.edi_schema.specs.Classes.{Classes}
use Rattle.edi_plan.specs.Plans.{PlanData}
use Rattle.edi_plan.specs.declared.record.PlanRecord.{PlanRecord}
use Rattle.edi_compare.specs.declared.pairing.Pairing.{Pairing}

-- a schema with the class of nodes alone
abbrev pub node_classes : Classes
node_classes =
    (record { rty = codes "PGE"; rid = codes "NOD_id" }, record { role = Plain; letter = 65; is_number = false }) ∷ []

-- a sheet of one node at 10.5 and 20, with numbers and lines spelled otherwise than in its canonical file
abbrev pub node_sheet : List ℕ
node_sheet = one_node []

-- the plan that it states
abbrev pub node_plan : PlanData
node_plan = record {
  cse = Some (codes "IRV");
  list =
      (record {
        kind = Pno;
        class = 0;
        role = Plain;
        points = (record { x = pos 10500000; y = pos 20000000; z = None }) ∷ [];
        attributes = [];
        extras = [];
        ends = [];
      }) ∷ [];
}

abbrev pub file_of_lines : List (List ℕ) → List ℕ
file_of_lines lines = flat_map (λ line. line ++ 13 ∷ 10 ∷ []) lines

-- its canonical file
abbrev pub node_file : List ℕ
node_file = file_of_lines (codes "BOMT 09:CANON.VEC" ∷ codes "CSET 03:IRV" ∷ codes "RTYSA03:PNO" ∷ codes "RIDSA02:N1"
    ∷ codes "SCPCP19:CANON;SD;PGE;NOD_id" ∷ codes "CORCC10:+10.5;+20;" ∷ codes "ATCSN01:0" ∷ codes "EOMT 00:" ∷ [])

-- a sheet without records, and its canonical file
abbrev pub empty_sheet : List ℕ
empty_sheet = codes "BOMT 12:EDAB01T1.VEC\nEOMT 00:"

abbrev pub empty_file : List ℕ
empty_file = file_of_lines (codes "BOMT 09:CANON.VEC" ∷ codes "EOMT 00:" ∷ [])

-- ---- an arc between two nodes, with a face on each side

-- a name and its class, which is of this role
abbrev pub class : List ℕ → List ℕ → Role → Name × Class
class rty rid role = (record { rty = rty; rid = rid }, record { role = role; letter = 65; is_number = false })

-- a schema with a class of each of the four kinds of links, and a class of links of no kind
abbrev pub arc_classes : Classes
arc_classes =
    class (codes "OBJ") (codes "BAT_id") Plain ∷ class (codes "PGE") (codes "ARC_id") Plain
    ∷ class (codes "PGE") (codes "FAC_id") Plain
    ∷ class (codes "PGE") (codes "NOD_id") Plain ∷ class (codes "REL") (codes "DRT_id") Right
    ∷ class (codes "REL") (codes "FIN_id") Final
    ∷ class (codes "REL") (codes "GCH_id") Left ∷ class (codes "REL") (codes "INI_id") Initial
    ∷ class (codes "REL") (codes "LIE_id") Plain ∷ []

-- the lines of a sheet: an arc from the node m at 1;0 to the node n at 0;0, two faces, an object with a piece that
-- joins it with f, and a plain link from g to m. The links from the arc to f and to g are of these classes
abbrev pub arc_lines : List ℕ → List ℕ → List (List ℕ)
arc_lines to_f to_g = codes "BOMT 00:"
    ∷ codes "RTYSA03:PNO" ∷ codes "RIDSA01:m" ∷ codes "SCPCP12:;;PGE;NOD_id" ∷ codes "CORCC04:1;0;"
    ∷ codes "RTYSA03:PNO" ∷ codes "RIDSA01:n" ∷ codes "SCPCP12:;;PGE;NOD_id" ∷ codes "CORCC04:0;0;"
    ∷ codes "RTYSA03:PAR" ∷ codes "RIDSA01:a" ∷ codes "SCPCP12:;;PGE;ARC_id" ∷ codes "CORCC04:1;0;"
    ∷ codes "CORCC04:0;0;"
    ∷ codes "RTYSA03:PFE" ∷ codes "RIDSA01:f" ∷ codes "SCPCP12:;;PGE;FAC_id"
    ∷ codes "RTYSA03:PFE" ∷ codes "RIDSA01:g" ∷ codes "SCPCP12:;;PGE;FAC_id"
    ∷ codes "RTYSA03:FEA" ∷ codes "RIDSA01:o" ∷ codes "SCPCP12:;;OBJ;BAT_id"
    ∷ codes "RTYSA03:LNK" ∷ codes "RIDSA01:p" ∷ codes "SCPCP12:;;REL;INI_id" ∷ codes "FTPCP07:;;PAR;a"
    ∷ codes "FTPCP07:;;PNO;m"
    ∷ codes "RTYSA03:LNK" ∷ codes "RIDSA01:q" ∷ codes "SCPCP12:;;REL;FIN_id" ∷ codes "FTPCP07:;;PAR;a"
    ∷ codes "FTPCP07:;;PNO;n"
    ∷ codes "RTYSA03:LNK" ∷ codes "RIDSA01:r" ∷ (codes "SCPCP12:;;REL;" ++ to_f) ∷ codes "FTPCP07:;;PAR;a"
    ∷ codes "FTPCP07:;;PFE;f"
    ∷ codes "RTYSA03:LNK" ∷ codes "RIDSA01:s" ∷ (codes "SCPCP12:;;REL;" ++ to_g) ∷ codes "FTPCP07:;;PAR;a"
    ∷ codes "FTPCP07:;;PFE;g"
    ∷ codes "RTYSA03:LNK" ∷ codes "RIDSA01:t" ∷ codes "SCPCP12:;;REL;LIE_id" ∷ codes "FTPCP07:;;FEA;o"
    ∷ codes "FTPCP07:;;PFE;f"
    ∷ codes "RTYSA03:LNK" ∷ codes "RIDSA01:u" ∷ codes "SCPCP12:;;REL;LIE_id" ∷ codes "FTPCP07:;;PFE;g"
    ∷ codes "FTPCP07:;;PNO;m"
    ∷ codes "EOMT 00:" ∷ []

-- the face f is on the left of the arc, and g on its right
abbrev pub turned_arc_sheet : List ℕ
turned_arc_sheet = file_of_lines (arc_lines (codes "GCH_id") (codes "DRT_id"))

-- the same with the sides exchanged
abbrev pub exchanged_sheet : List ℕ
exchanged_sheet = file_of_lines (arc_lines (codes "DRT_id") (codes "GCH_id"))

-- another presentation of the first: the arc runs from n to m, its ends and its sides are exchanged, and the records
-- stand in another order
abbrev pub reversed_arc_sheet : List ℕ
reversed_arc_sheet = file_of_lines (codes "BOMT 09:ABCD1.VEC"
    ∷ codes "RTYSA03:LNK" ∷ codes "RIDSA01:1" ∷ codes "SCPCP12:;;REL;LIE_id" ∷ codes "FTPCP08:;;PFE;f2"
    ∷ codes "FTPCP08:;;PNO;n2"
    ∷ codes "RTYSA03:LNK" ∷ codes "RIDSA01:2" ∷ codes "SCPCP12:;;REL;LIE_id" ∷ codes "FTPCP08:;;FEA;o1"
    ∷ codes "FTPCP08:;;PFE;f1"
    ∷ codes "RTYSA03:FEA" ∷ codes "RIDSA02:o1" ∷ codes "SCPCP12:;;OBJ;BAT_id"
    ∷ codes "RTYSA03:LNK" ∷ codes "RIDSA01:3" ∷ codes "SCPCP12:;;REL;GCH_id" ∷ codes "FTPCP08:;;PAR;a1"
    ∷ codes "FTPCP08:;;PFE;f2"
    ∷ codes "RTYSA03:LNK" ∷ codes "RIDSA01:4" ∷ codes "SCPCP12:;;REL;DRT_id" ∷ codes "FTPCP08:;;PAR;a1"
    ∷ codes "FTPCP08:;;PFE;f1"
    ∷ codes "RTYSA03:LNK" ∷ codes "RIDSA01:5" ∷ codes "SCPCP12:;;REL;INI_id" ∷ codes "FTPCP08:;;PAR;a1"
    ∷ codes "FTPCP08:;;PNO;n1"
    ∷ codes "RTYSA03:LNK" ∷ codes "RIDSA01:6" ∷ codes "SCPCP12:;;REL;FIN_id" ∷ codes "FTPCP08:;;PAR;a1"
    ∷ codes "FTPCP08:;;PNO;n2"
    ∷ codes "RTYSA03:PFE" ∷ codes "RIDSA02:f1" ∷ codes "SCPCP12:;;PGE;FAC_id"
    ∷ codes "RTYSA03:PFE" ∷ codes "RIDSA02:f2" ∷ codes "SCPCP12:;;PGE;FAC_id"
    ∷ codes "RTYSA03:PAR" ∷ codes "RIDSA02:a1" ∷ codes "SCPCP12:;;PGE;ARC_id" ∷ codes "PTCSN01:2"
    ∷ codes "CORCC07:0.0;0.0" ∷ codes "CORCC07:1.0;0.0"
    ∷ codes "RTYSA03:PNO" ∷ codes "RIDSA02:n1" ∷ codes "SCPCP12:;;PGE;NOD_id" ∷ codes "CORCC07:0.0;0.0"
    ∷ codes "RTYSA03:PNO" ∷ codes "RIDSA02:n2" ∷ codes "SCPCP12:;;PGE;NOD_id" ∷ codes "CORCC07:1.0;0.0"
    ∷ codes "EOMT 00:" ∷ [])

-- their plans

-- in millionths, without a third coordinate
abbrev pub position : ℕ → ℕ → Point
position x y = record { x = pos x; y = pos y; z = None }

-- a record with a type, a class and points alone
abbrev pub bare : Kind → ℕ → List Point → PlanRecord
bare kind class points =
    record { kind = kind; class = class; role = Plain; points = points; attributes = []; extras = []; ends = [] }

-- a link with a class, a role and two ends alone
abbrev pub link : ℕ → Role → ℕ → ℕ → PlanRecord
link class role a b =
    record {
      kind = Lnk;
      class = class;
      role = role;
      points = [];
      attributes = [];
      extras = [];
      ends = (record { target = a; sns = None }) ∷ (record { target = b; sns = None }) ∷ [];
    }

-- where the links from the arc to f and to g are of these classes and roles
abbrev pub arc_plan : ℕ → Role → ℕ → Role → PlanData
arc_plan f_class f_role g_class g_role = record {
  cse = None;
  list =
      bare Pno 3 (position 1000000 0 ∷ []) ∷ bare Pno 3 (position 0 0 ∷ [])
      ∷ bare Par 1 (position 1000000 0 ∷ position 0 0 ∷ [])
      ∷ bare Pfe 2 [] ∷ bare Pfe 2 [] ∷ bare Fea 0 [] ∷ link 7 Initial 2 0 ∷ link 5 Final 2 1
      ∷ link f_class f_role 2 3 ∷ link g_class g_role 2 4 ∷ link 8 Plain 5 3 ∷ link 8 Plain 4 0 ∷ [];
}

abbrev pub turned_arc_plan : PlanData
turned_arc_plan = arc_plan 6 Left 4 Right

abbrev pub exchanged_plan : PlanData
exchanged_plan = arc_plan 4 Right 6 Left

abbrev pub reversed_arc_plan : PlanData
reversed_arc_plan = record {
  cse = None;
  list =
      link 8 Plain 8 11 ∷ link 8 Plain 2 7 ∷ bare Fea 0 [] ∷ link 6 Left 9 8 ∷ link 4 Right 9 7 ∷ link 7 Initial 9 10
      ∷ link 5 Final 9 11
      ∷ bare Pfe 2 [] ∷ bare Pfe 2 [] ∷ bare Par 1 (position 0 0 ∷ position 1000000 0 ∷ [])
      ∷ bare Pno 3 (position 0 0 ∷ []) ∷ bare Pno 3 (position 1000000 0 ∷ []) ∷ [];
}

-- the pairing of the first with the third: the arc is reversed
abbrev pub arc_pairing : Pairing
arc_pairing = record {
  to = 11 ∷ 10 ∷ 9 ∷ 7 ∷ 8 ∷ 2 ∷ 6 ∷ 5 ∷ 4 ∷ 3 ∷ 1 ∷ 0 ∷ [];
  turned = false ∷ false ∷ true ∷ false ∷ false ∷ false ∷ false ∷ false ∷ false ∷ false ∷ false ∷ false ∷ [];
}

-- the lines of their canonical files, where f and g are these faces
abbrev pub canonical_lines : List ℕ → List ℕ → List (List ℕ)
canonical_lines f g = codes "BOMT 09:CANON.VEC"
    ∷ codes "RTYSA03:PNO" ∷ codes "RIDSA02:N1" ∷ codes "SCPCP19:CANON;SD;PGE;NOD_id" ∷ codes "CORCC06:+0;+0;"
    ∷ codes "ATCSN01:0"
    ∷ codes "RTYSA03:PNO" ∷ codes "RIDSA02:N2" ∷ codes "SCPCP19:CANON;SD;PGE;NOD_id" ∷ codes "CORCC06:+1;+0;"
    ∷ codes "ATCSN01:0"
    ∷ codes "RTYSA03:PAR" ∷ codes "RIDSA02:A1" ∷ codes "SCPCP19:CANON;SD;PGE;ARC_id" ∷ codes "PTCSN01:2"
    ∷ codes "CORCC06:+0;+0;" ∷ codes "CORCC06:+1;+0;" ∷ codes "ATCSN01:0"
    ∷ codes "RTYSA03:PFE" ∷ codes "RIDSA02:F1" ∷ codes "SCPCP19:CANON;SD;PGE;FAC_id" ∷ codes "ATCSN01:0"
    ∷ codes "RTYSA03:PFE" ∷ codes "RIDSA02:F2" ∷ codes "SCPCP19:CANON;SD;PGE;FAC_id" ∷ codes "ATCSN01:0"
    ∷ codes "RTYSA03:FEA" ∷ codes "RIDSA02:O1" ∷ codes "SCPCP19:CANON;SD;OBJ;BAT_id" ∷ codes "ATCSN01:0"
    ∷ codes "RTYSA03:LNK" ∷ codes "RIDSA02:L1" ∷ codes "SCPCP19:CANON;SD;REL;DRT_id" ∷ codes "FTCSN01:2"
    ∷ codes "FTPCP14:CANON;S;PAR;A1" ∷ codes "FTPCP14:CANON;S;PFE;F2" ∷ codes "ATCSN01:0"
    ∷ codes "RTYSA03:LNK" ∷ codes "RIDSA02:L2" ∷ codes "SCPCP19:CANON;SD;REL;FIN_id" ∷ codes "FTCSN01:2"
    ∷ codes "FTPCP14:CANON;S;PAR;A1" ∷ codes "FTPCP14:CANON;S;PNO;N2" ∷ codes "ATCSN01:0"
    ∷ codes "RTYSA03:LNK" ∷ codes "RIDSA02:L3" ∷ codes "SCPCP19:CANON;SD;REL;GCH_id" ∷ codes "FTCSN01:2"
    ∷ codes "FTPCP14:CANON;S;PAR;A1" ∷ codes "FTPCP14:CANON;S;PFE;F1" ∷ codes "ATCSN01:0"
    ∷ codes "RTYSA03:LNK" ∷ codes "RIDSA02:L4" ∷ codes "SCPCP19:CANON;SD;REL;INI_id" ∷ codes "FTCSN01:2"
    ∷ codes "FTPCP14:CANON;S;PAR;A1" ∷ codes "FTPCP14:CANON;S;PNO;N1" ∷ codes "ATCSN01:0"
    ∷ codes "RTYSA03:LNK" ∷ codes "RIDSA02:L5" ∷ codes "SCPCP19:CANON;SD;REL;LIE_id" ∷ codes "FTCSN01:2"
    ∷ (codes "FTPCP14:CANON;S;PFE;" ++ g) ∷ codes "FTPCP14:CANON;S;PNO;N2" ∷ codes "ATCSN01:0"
    ∷ codes "RTYSA03:LNK" ∷ codes "RIDSA02:L6" ∷ codes "SCPCP19:CANON;SD;REL;LIE_id" ∷ codes "FTCSN01:2"
    ∷ codes "FTPCP14:CANON;S;FEA;O1" ∷ (codes "FTPCP14:CANON;S;PFE;" ++ f) ∷ codes "ATCSN01:0"
    ∷ codes "EOMT 00:" ∷ []

-- the canonical file of the first and of the third, and that of the second
abbrev pub turned_arc_file : List ℕ
turned_arc_file = file_of_lines (canonical_lines (codes "F2") (codes "F1"))

abbrev pub exchanged_file : List ℕ
exchanged_file = file_of_lines (canonical_lines (codes "F1") (codes "F2"))

-- ---- refused sheets

-- a line with fewer bytes than its head says
abbrev pub cut_line_sheet : List ℕ
cut_line_sheet = codes "BOMT 09:CANON"

-- a node that has no attribute, with a count of one
abbrev pub wrong_count_sheet : List ℕ
wrong_count_sheet = one_node (line (codes "ATCSN01:1") [])

-- a face alone
abbrev pub lone_face_sheet : List ℕ
lone_face_sheet =
    file_of_lines (codes "BOMT 00:" ∷ codes "RTYSA03:PFE" ∷ codes "RIDSA01:f" ∷ codes "SCPCP12:;;PGE;FAC_id"
    ∷ codes "EOMT 00:" ∷ [])

-- two objects without attributes and pieces
abbrev pub equal_objects_sheet : List ℕ
equal_objects_sheet =
    file_of_lines (codes "BOMT 00:" ∷ codes "RTYSA03:FEA" ∷ codes "RIDSA01:o" ∷ codes "SCPCP12:;;OBJ;BAT_id"
    ∷ codes "RTYSA03:FEA" ∷ codes "RIDSA01:p" ∷ codes "SCPCP12:;;OBJ;BAT_id" ∷ codes "EOMT 00:" ∷ [])
