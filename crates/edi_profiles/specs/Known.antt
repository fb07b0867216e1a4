-- Known sheets, of which the later rules accept more.
use Rattle.std.specs.Prelude.{ℕ, List, [], codes}
use Rattle.edi_record.specs.Rows.{line}

-- a sheet of one node, whose position has a third coordinate
abbrev pub high_sheet : List ℕ
high_sheet =
    line (codes "BOMT 12:EDAB01T1.VEC") (line (codes "RTYSA03:PNO") (line (codes "RIDSA07:Noeud_1")
    (line (codes "SCPCP22:EDAB01;SeSD;PGE;NOD_id") (line (codes "CORCC06:1;2;3;") (line (codes "EOMT 00:") [])))))

-- a sheet of two nodes at one position, of which one has an extra zone
abbrev pub shared_sheet : List ℕ
shared_sheet =
    line (codes "BOMT 12:EDAB01T1.VEC") (line (codes "RTYSA03:PNO") (line (codes "RIDSA01:a")
    (line (codes "SCPCP22:EDAB01;SeSD;PGE;NOD_id")
    (line (codes "CORCC04:1;2;") (line (codes "RTYSA03:PNO") (line (codes "RIDSA01:b")
    (line (codes "SCPCP22:EDAB01;SeSD;PGE;NOD_id")
    (line (codes "CORCC04:1;2;") (line (codes "XTRSA01:x") (line (codes "EOMT 00:") []))))))))))
