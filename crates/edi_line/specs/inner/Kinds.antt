-- The kinds of lines that the code tells apart.
use Rattle.std.specs.Prelude.{ℕ, Bool, true, false, ◌&&◌, ◌||◌, not, List, if◌then◌else◌, bytes_eq, codes}
use Rattle.edi_line.specs.declared.order.ZoneKind.{ZoneKind}
use Rattle.edi_line.specs.declared.order.ZoneKind.TheVariants.{Bom, Cse, Rty, Eom, Other, Next, Remark}

-- what a code is
abbrev pub kind_of : List ℕ → ZoneKind
kind_of code =
    if bytes_eq code (codes "BOM") then Bom
    else (if bytes_eq code (codes "CSE") then Cse
    else (if bytes_eq code (codes "RTY") then Rty
    else (if bytes_eq code (codes "EOM") then Eom
    else (if bytes_eq code (codes "NEX") then Next
    else (if bytes_eq code (codes "REM") then Remark
    else Other)))))

-- BOM, with which a file begins
abbrev pub is_bom : ZoneKind → Bool
is_bom Bom = true
is_bom _ = false

-- CSE, the character set
abbrev pub is_cse : ZoneKind → Bool
is_cse Cse = true
is_cse _ = false

-- RTY, with which a record begins
abbrev pub is_rty : ZoneKind → Bool
is_rty Rty = true
is_rty _ = false

-- EOM, with which a file ends
abbrev pub is_eom : ZoneKind → Bool
is_eom Eom = true
is_eom _ = false

-- NEX, which goes on with the value of the zone before it
abbrev pub is_next : ZoneKind → Bool
is_next Next = true
is_next _ = false

-- REM, a remark
abbrev pub is_remark : ZoneKind → Bool
is_remark Remark = true
is_remark _ = false

-- NEX lines and remarks are no zones
abbrev pub is_zone_kind : ZoneKind → Bool
is_zone_kind kind = not (is_next kind || is_remark kind)

-- a line that NEX may go on with
abbrev pub is_start_kind : ZoneKind → Bool
is_start_kind kind = not (is_next kind)

-- a kind that a group may hold behind its RTY
abbrev pub is_inner_kind : ZoneKind → Bool
is_inner_kind kind = not (is_bom kind || (is_cse kind || (is_rty kind || is_eom kind)))

-- none of the named codes
abbrev pub is_other_kind : ZoneKind → Bool
is_other_kind kind = is_zone_kind kind && is_inner_kind kind
