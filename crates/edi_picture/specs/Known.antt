-- Known sheets that are drawn.
use Rattle.std.specs.Prelude.{ℕ, pos, List, [], ◌∷◌, None, codes, false}
use Rattle.edi_record.specs.declared.name.Name.{Name}
use Rattle.edi_record.specs.declared.record.Kind.{Kind}
use Rattle.edi_record.specs.declared.record.Kind.TheVariants.{Pno}
use Rattle.edi_record.specs.declared.record.Point.{Point}
use Rattle.edi_schema.specs.Classes.{Classes}
use Rattle.edi_schema.specs.declared.class.Class.{Class}
use Rattle.edi_schema.specs.declared.role.Role.{Role}
use Rattle.edi_schema.specs.declared.role.Role.TheVariants.{Plain}
use Rattle.edi_plan.specs.declared.extent.Extent.{Extent}
use Rattle.edi_plan.specs.declared.record.PlanRecord.{PlanRecord}
use Rattle.edi_picture.specs.Sheets.{DrawnSheet}
use Rattle.edi_picture.specs.declared.mark.Mark.{Mark}

-- a name, and a class of this role
abbrev pub named_class : List ℕ → List ℕ → Role → Name × Class
named_class rty rid role = (record { rty = rty; rid = rid }, record { role = role; letter = 65; is_number = false })

-- a schema with one class
abbrev pub one_class : Classes
one_class = named_class (codes "PGE") (codes "NOD_id") Plain ∷ []

-- in millionths, without a third coordinate
abbrev pub known_point : ℕ → ℕ → Point
known_point x y = record { x = pos x; y = pos y; z = None }

-- a record of this type and class that has these points and nothing else
abbrev pub pointed_record : Kind → ℕ → List Point → PlanRecord
pointed_record kind class points = record {
  kind = kind;
  class = class;
  role = Plain;
  points = points;
  attributes = [];
  extras = [];
  ends = [];
}

-- a sheet of one record of this type, with these points and this mark, which is called A&B
abbrev pub one_record : Kind → List Point → Mark → DrawnSheet
one_record kind points mark = record {
  plan = record { cse = None; list = pointed_record kind 0 points ∷ [] };
  name = [];
  identifiers = codes "A&B" ∷ [];
  marks = mark ∷ [];
  tints = [];
  labels = [];
}

-- a sheet of one node, so far across
abbrev pub lone_node : ℕ → Mark → DrawnSheet
lone_node x mark = one_record Pno (known_point x 20000000 ∷ []) mark

-- a frame from 0.5 to 3, and from 0 to 22.5
abbrev pub frame : Extent
frame = record {
  x = record { least = pos 500000; greatest = pos 3000000 };
  y = record { least = pos 0; greatest = pos 22500000 };
}
