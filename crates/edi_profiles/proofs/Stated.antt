-- What the known sheets state.
use Rattle.std.proofs.Common.{ℕ, List, [], ◌∷◌, None, Some, codes}
use Rattle.std.specs.Prelude.{pos}
use Rattle.edi_line.specs.ZoneData.{ZoneData}
use Rattle.edi_line.specs.Printing.{at_line, zone_headed}
use Rattle.edi_record.specs.declared.record.Kind.TheVariants.{Pno}
use Rattle.edi_record.specs.declared.record.Extra.{Extra}
use Rattle.edi_record.specs.declared.record.Point.{Point}
use Rattle.edi_record.specs.declared.record.Record.{Record}
use Rattle.edi_record.specs.declared.record.Value.TheVariants.{Bytes}
use Rattle.edi_schema.specs.declared.role.Role.TheVariants.{Plain}
use Rattle.edi_plan.specs.Plans.{PlanData}
use Rattle.edi_plan.specs.declared.record.PlanRecord.{PlanRecord}

-- the zones of the high node, and its position
abbrev pub high_group : List ZoneData
high_group =
    at_line 2 (zone_headed (codes "RTYSA") (codes "PNO"))
    ∷ at_line 3 (zone_headed (codes "RIDSA") (codes "Noeud_1"))
    ∷ at_line 4 (zone_headed (codes "SCPCP") (codes "EDAB01;SeSD;PGE;NOD_id"))
    ∷ at_line 5 (zone_headed (codes "CORCC") (codes "1;2;3;"))
    ∷ []

abbrev pub high_point : Point
high_point = record { x = pos 1000000; y = pos 2000000; z = Some (pos 3000000) }

-- the zones of the node in its canonical file, and its position
abbrev pub file_group : List ZoneData
file_group =
    at_line 3 (zone_headed (codes "RTYSA") (codes "PNO"))
    ∷ at_line 4 (zone_headed (codes "RIDSA") (codes "N1"))
    ∷ at_line 5 (zone_headed (codes "SCPCP") (codes "CANON;SD;PGE;NOD_id"))
    ∷ at_line 6 (zone_headed (codes "CORCC") (codes "+10.5;+20;"))
    ∷ at_line 7 (zone_headed (codes "ATCSN") (codes "0"))
    ∷ []

abbrev pub flat_point : Point
flat_point = record { x = pos 10500000; y = pos 20000000; z = None }

-- the zones of the two nodes
abbrev pub first_group : List ZoneData
first_group =
    at_line 2 (zone_headed (codes "RTYSA") (codes "PNO"))
    ∷ at_line 3 (zone_headed (codes "RIDSA") (codes "a"))
    ∷ at_line 4 (zone_headed (codes "SCPCP") (codes "EDAB01;SeSD;PGE;NOD_id"))
    ∷ at_line 5 (zone_headed (codes "CORCC") (codes "1;2;"))
    ∷ []

abbrev pub second_group : List ZoneData
second_group =
    at_line 6 (zone_headed (codes "RTYSA") (codes "PNO"))
    ∷ at_line 7 (zone_headed (codes "RIDSA") (codes "b"))
    ∷ at_line 8 (zone_headed (codes "SCPCP") (codes "EDAB01;SeSD;PGE;NOD_id"))
    ∷ at_line 9 (zone_headed (codes "CORCC") (codes "1;2;"))
    ∷ at_line 10 (zone_headed (codes "XTRSA") (codes "x"))
    ∷ []

-- the two nodes, which differ in an extra zone
abbrev pub shared_point : Point
shared_point = record { x = pos 1000000; y = pos 2000000; z = None }

-- of nature S and format A
abbrev pub extra_zone : Extra
extra_zone = record { code = codes "XTR"; nature = 83; format = 65; value = Bytes (codes "x") }

abbrev pub node_of : List ℕ → List Extra → Record
node_of rid extras = record {
  kind = Pno;
  rid = rid;
  scp = record { rty = codes "PGE"; rid = codes "NOD_id" };
  points = shared_point ∷ [];
  ends = [];
  attributes = [];
  extras = extras;
}

abbrev pub planned : List Extra → PlanRecord
planned extras = record { kind = Pno; class = 0; role = Plain; points = shared_point ∷ []; attributes = []; extras = extras; ends = [] }

abbrev pub shared_plan : PlanData
shared_plan = record { cse = None; list = planned [] ∷ planned (extra_zone ∷ []) ∷ [] }
