-- The single zones of the canonical file.
use Rattle.std.specs.Prelude.{ℕ, List, [], ◌∷◌, ◌++◌, codes, decimal}
use Rattle.edi_line.specs.ZoneData.{ZoneData}
use Rattle.edi_line.specs.Number.{plain_text}
use Rattle.edi_line.specs.Printing.{zone_text, zone_headed}
use Rattle.edi_record.specs.Shapes.{kind_code}
use Rattle.edi_record.specs.Texts.{pointer_text, point_text}
use Rattle.edi_record.specs.declared.name.Name.{Name}
use Rattle.edi_record.specs.declared.record.Kind.{Kind}
use Rattle.edi_record.specs.declared.record.Extra.{Extra}
use Rattle.edi_record.specs.declared.record.Value.{Value}
use Rattle.edi_record.specs.declared.record.Value.TheVariants.{Number, Bytes}
use Rattle.edi_record.specs.declared.record.Point.{Point}

-- a class: a pointer into the subset SD of the lot CANON
abbrev pub class_text : Name → List ℕ
class_text n = pointer_text (record { lot = codes "CANON"; subset = codes "SD"; rty = n.rty; rid = n.rid })

-- a number in its shortest spelling; bytes as they are
abbrev pub value_text : Value → List ℕ
value_text (Number m) = plain_text m
value_text (Bytes text) = text

-- the type of a record
abbrev pub type_zone : Kind → ZoneData
type_zone kind = zone_headed (codes "RTYSA") (kind_code kind)

-- its identifier
abbrev pub identifier_zone : List ℕ → ZoneData
identifier_zone rid = zone_headed (codes "RIDSA") rid

-- its class
abbrev pub class_zone : Name → ZoneData
class_zone class = zone_headed (codes "SCPCP") (class_text class)

-- how many points an arc has
abbrev pub point_count_zone : ℕ → ZoneData
point_count_zone count = zone_headed (codes "PTCSN") (decimal count)

-- how many ends a link has
abbrev pub end_count_zone : ℕ → ZoneData
end_count_zone count = zone_headed (codes "FTCSN") (decimal count)

-- how many attributes a record has
abbrev pub attribute_count_zone : ℕ → ZoneData
attribute_count_zone count = zone_headed (codes "ATCSN") (decimal count)

-- the class of an attribute
abbrev pub attribute_zone : Name → ZoneData
attribute_zone class = zone_headed (codes "ATPCP") (class_text class)

-- its value, whose format is the letter of the class
abbrev pub value_zone : ℕ → Value → ZoneData
value_zone letter value = zone_headed (codes "ATVS" ++ letter ∷ []) (value_text value)

-- a point
abbrev pub point_zone : Point → ZoneData
point_zone p = zone_headed (codes "CORCC") (point_text p)

-- the character set of an attribute's value
abbrev pub set_zone : List ℕ → ZoneData
set_zone text = zone_headed (codes "TEXT ") text

-- a zone that its record does not know, with its own head
abbrev pub extra_zone : Extra → ZoneData
extra_zone e = zone_text e.code e.nature e.format (value_text e.value)

-- an end of a link: a pointer into the subset S of the lot CANON
abbrev pub end_text : Name → List ℕ
end_text n = pointer_text (record { lot = codes "CANON"; subset = codes "S"; rty = n.rty; rid = n.rid })

-- the zone of that pointer
abbrev pub target_zone : Name → ZoneData
target_zone target = zone_headed (codes "FTPCP") (end_text target)

-- the sense of an end
abbrev pub sns_zone : List ℕ → ZoneData
sns_zone text = zone_headed (codes "SNSSA") text

-- the first zone of the file
abbrev pub begin_zone : ZoneData
begin_zone = zone_headed (codes "BOMT ") (codes "CANON.VEC")

-- the last
abbrev pub end_zone : ZoneData
end_zone = zone_headed (codes "EOMT ") []

-- that of its character set
abbrev pub cse_zone : List ℕ → ZoneData
cse_zone text = zone_headed (codes "CSET ") text
