-- Small sheets that show where two schemas differ: each of records of one class.
use Rattle.std.specs.Prelude.{ℕ, false, pos, List, [], ◌∷◌, None, codes}
use Rattle.edi_record.specs.RecordLayout.{Letters, records_layout}
use Rattle.edi_record.specs.Shapes.{kind_code}
use Rattle.edi_record.specs.declared.name.Name.{Name}
use Rattle.edi_record.specs.declared.record.Attribute.{Attribute}
use Rattle.edi_record.specs.LinkEnds.{EndData}
use Rattle.edi_record.specs.declared.record.Kind.{Kind}
use Rattle.edi_record.specs.declared.record.Kind.TheVariants.{Pno, Par, Pfe, Lnk}
use Rattle.edi_record.specs.declared.record.Point.{Point}
use Rattle.edi_record.specs.declared.record.Record.{Record}

-- ---- records

-- a position in whole millionths
abbrev pub spot : ℕ → ℕ → Point
spot x y = record { x = pos x; y = pos y; z = None }

-- an end at a record of this type and identifier
abbrev pub end_at : Kind → List ℕ → EndData
end_at kind rid = record {
  lot = codes "CANON";
  subset = codes "S";
  target = record { rty = kind_code kind; rid = rid };
  sns = None;
}

-- an attribute of the class with this value
abbrev pub valued : Name → List ℕ → Attribute
valued class value = record { atp = class; tex = None; atv = value }

-- a record of the class with these points, ends and attributes
abbrev pub record_of : Kind → Name → List ℕ → List Point → List EndData → List Attribute → Record
record_of kind class rid points ends attributes = record {
  kind = kind;
  rid = rid;
  scp = class;
  points = points;
  ends = ends;
  attributes = attributes;
  extras = [];
}

abbrev pub node_of : Name → List ℕ → List Attribute → Record
node_of class rid attributes = record_of Pno class rid (spot 0 0 ∷ []) [] attributes

-- from 0;0 to 1;0, in millionths
abbrev pub arc_of : Name → List ℕ → Record
arc_of class rid = record_of Par class rid (spot 0 0 ∷ spot 1 0 ∷ []) [] []

abbrev pub face_of : Name → List ℕ → Record
face_of class rid = record_of Pfe class rid [] [] []

abbrev pub link_of : Name → List ℕ → EndData → EndData → Record
link_of class rid a b = record_of Lnk class rid [] (a ∷ b ∷ []) []

-- ---- sheets

-- one node
abbrev pub node_records : Name → List Record
node_records class = node_of class (codes "N") [] ∷ []

-- a link that has one node at both ends
abbrev pub loop_records : Name → List Record
loop_records class =
    link_of class (codes "L") (end_at Pno (codes "N")) (end_at Pno (codes "N"))
    ∷ node_of class (codes "N") []
    ∷ []

-- a link from an arc to the node at its first point
abbrev pub join_records : Name → List Record
join_records class =
    link_of class (codes "L") (end_at Par (codes "A")) (end_at Pno (codes "N"))
    ∷ arc_of class (codes "A")
    ∷ node_of class (codes "N") []
    ∷ []

-- the same, the arc first
abbrev pub start_records : Name → List Record
start_records class =
    arc_of class (codes "A")
    ∷ node_of class (codes "N") []
    ∷ link_of class (codes "L") (end_at Par (codes "A")) (end_at Pno (codes "N"))
    ∷ []

-- two nodes that differ in the spelling of an attribute's value
abbrev pub value_records : Name → List Record
value_records class =
    node_of class (codes "N") (valued class (codes "01") ∷ [])
    ∷ node_of class (codes "M") (valued class (codes "1") ∷ [])
    ∷ []

-- a node with an attribute of no value
abbrev pub letter_records : Name → List Record
letter_records class = node_of class (codes "N1") (valued class [] ∷ []) ∷ []

-- an arc between two faces: a link of the one class joins it with the first, and one of the other with the second
abbrev pub side_records : Name → Name → List Record
side_records class other =
    arc_of class (codes "A1")
    ∷ face_of class (codes "F1")
    ∷ face_of class (codes "F2")
    ∷ link_of class (codes "L1") (end_at Par (codes "A1")) (end_at Pfe (codes "F1"))
    ∷ link_of other (codes "L2") (end_at Par (codes "A1")) (end_at Pfe (codes "F2"))
    ∷ []

-- the formats and values of attributes don't count for what is read
abbrev pub plain_letters : Letters
plain_letters = record { letter = λ name. 65; is_number = λ name. false }

-- the file of these records
abbrev pub probe : List Record → List ℕ
probe records = records_layout plain_letters None records
