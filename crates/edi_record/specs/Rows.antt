-- Known files, and what they state.
use Rattle.std.specs.Prelude.{ℕ, pos, List, [], ◌∷◌, ◌++◌, None, codes}
use Rattle.edi_line.specs.Bytes.{line_feed}
use Rattle.edi_line.specs.ZoneData.{ZoneData}
use Rattle.edi_line.specs.Printing.{at_line, zone_headed}
use Rattle.edi_record.specs.declared.record.Kind.TheVariants.{Pno}
use Rattle.edi_record.specs.declared.record.Record.{Record}

abbrev pub line : List ℕ → List ℕ → List ℕ
line text rest = text ++ line_feed ∷ rest

-- a sheet with one node, and more zones behind its point
abbrev pub one_node : List ℕ → List ℕ
one_node more =
    line (codes "BOMT 12:EDAB01T1.VEC")
    (line (codes "CSET 03:IRV") (line (codes "RTYSA03:PNO") (line (codes "RIDSA07:Noeud_1")
    (line (codes "SCPCP22:EDAB01;SeSD;PGE;NOD_id") (line (codes "CORCC12:+10.50;+020;") (more
    ++ line (codes "EOMT 00:") []))))))

abbrev pub the_node : Record
the_node = record {
  kind = Pno;
  rid = codes "Noeud_1";
  scp = record { rty = codes "PGE"; rid = codes "NOD_id" };
  points = record { x = pos 10500000; y = pos 20000000; z = None } ∷ [];
  ends = [];
  attributes = [];
  extras = [];
}

-- the zones of that node
abbrev pub node_group : List ZoneData
node_group =
    at_line 3 (zone_headed (codes "RTYSA") (codes "PNO"))
    ∷ at_line 4 (zone_headed (codes "RIDSA") (codes "Noeud_1"))
    ∷ at_line 5 (zone_headed (codes "SCPCP") (codes "EDAB01;SeSD;PGE;NOD_id"))
    ∷ at_line 6 (zone_headed (codes "CORCC") (codes "+10.50;+020;"))
    ∷ []
