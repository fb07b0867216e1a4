-- A record as it is written of a plan that labels turn and number.
use Rattle.std.specs.Prelude.{ℕ, Bool, List, [], ◌∷◌, ◌++◌, length, map, flat_map, option_to_list, codes, decimal}
use Rattle.edi_line.specs.ZoneData.{ZoneData}
use Rattle.edi_line.specs.Printing.{zone_headed}
use Rattle.edi_record.specs.CanonicalZones.{end_text, extra_zone, point_zone, sns_zone}
use Rattle.edi_record.specs.Shapes.{kind_code}
use Rattle.edi_record.specs.declared.name.Name.{Name}
use Rattle.edi_record.specs.declared.record.Kind.{Kind}
use Rattle.edi_record.specs.declared.record.Kind.TheVariants.{Pno, Par, Pfe, Fea, Lnk}
use Rattle.edi_record.specs.declared.record.Point.{Point}
use Rattle.edi_schema.specs.Classes.{Classes}
use Rattle.edi_schema.specs.Sorted.{sort_by}
use Rattle.edi_plan.specs.Orders.{attribute_cmp}
use Rattle.edi_plan.specs.Plans.{PlanData, record_at}
use Rattle.edi_plan.specs.declared.record.PlanAttribute.{PlanAttribute}
use Rattle.edi_plan.specs.declared.record.PlanRecord.{PlanRecord}
use Rattle.edi_plan.specs.declared.record.PlanEnd.{PlanEnd}
use Rattle.edi_rank.specs.Arranged.{arranged_record}
use Rattle.edi_rank.specs.Keys.{ends_key}
use Rattle.edi_rank.specs.Labelling.{Labelling, number_of, turned_at}
use Rattle.edi_rank.specs.Same.{directed}
use Rattle.edi_rank.specs.declared.keys.NumberedEnd.{NumberedEnd}
use Rattle.edi_write.specs.Layout.{attribute_zones, head_zones, identifier, kind_letter}

-- the name of a record by its type and its number
abbrev pub numbered_name : Kind → ℕ → Name
numbered_name kind number = record { rty = kind_code kind; rid = identifier kind number }

-- the pointer to a record of a type, but for its number
abbrev pub pointer_begun : Kind → List ℕ
pointer_begun kind = codes "CANON;S;" ++ (kind_code kind ++ (codes ";" ++ kind_letter kind))

-- the zones of an end by the type and the number of what it names
abbrev pub numbered_end_zones : NumberedEnd → List ZoneData
numbered_end_zones e =
    zone_headed (codes "FTPCP") (end_text (numbered_name e.kind e.number)) ∷ map sns_zone (option_to_list e.sns)

-- the count of an arc's points, and these in its direction
abbrev pub arc_body : Bool → List Point → List ZoneData
arc_body turned points = zone_headed (codes "PTCSN") (decimal (length points)) ∷ map point_zone (directed turned points)

-- the count of a link's ends, the origin, and then the other ends in order
abbrev pub link_body : Labelling → PlanData → List PlanEnd → List ZoneData
link_body l p ends =
    zone_headed (codes "FTCSN") (decimal (length ends)) ∷ flat_map numbered_end_zones (ends_key p (number_of l) ends)

-- what stands between the class and the attributes of the record at a place
abbrev pub numbered_body : Labelling → PlanData → ℕ → Kind → List ZoneData
numbered_body l p place Pno = map point_zone (record_at p place).points
numbered_body l p place Par = arc_body (turned_at l.turned place) (record_at p place).points
numbered_body l p place Pfe = []
numbered_body l p place Fea = []
numbered_body l p place Lnk = link_body l p (record_at p place).ends

-- the count of attributes, and these in order
abbrev pub ordered_attributes : Classes → List PlanAttribute → List ZoneData
ordered_attributes s attributes =
    zone_headed (codes "ATCSN") (decimal (length (sort_by attribute_cmp attributes)))
    ∷ flat_map (attribute_zones s) (sort_by attribute_cmp attributes)

-- the attributes in order, and the extra zones
abbrev pub ordered_tail : Classes → PlanRecord → List ZoneData
ordered_tail s r = ordered_attributes s r.attributes ++ map extra_zone r.extras

-- the zones of the record at a place, with its number and those of its ends
abbrev pub numbered_zones : Classes → Labelling → PlanData → ℕ → List ZoneData
numbered_zones s l p place =
    head_zones s (number_of l place) (arranged_record s l p place)
    ++ (numbered_body l p place (record_at p place).kind ++ ordered_tail s (record_at p place))
