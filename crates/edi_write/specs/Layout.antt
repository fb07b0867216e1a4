-- The bytes of a plan whose records stand in their order.
use Rattle.std.specs.Prelude.{ℕ, ◌+◌, List, [], ◌∷◌, ◌++◌, length, take, map, flat_map, count_by, option_map, option_to_list, unwrap_or, codes, decimal}
use Rattle.edi_line.specs.Bytes.{letter_a}
use Rattle.edi_line.specs.ZoneData.{ZoneData}
use Rattle.edi_line.specs.Printing.{printed}
use Rattle.edi_record.specs.CanonicalZones.{type_zone, identifier_zone, class_zone, point_count_zone, point_zone, end_count_zone, target_zone, sns_zone, attribute_count_zone, attribute_zone, set_zone, value_zone, extra_zone, begin_zone, cse_zone, end_zone}
use Rattle.edi_record.specs.declared.record.Kind.{Kind}
use Rattle.edi_record.specs.declared.record.Kind.TheVariants.{Pno, Par, Pfe, Fea, Lnk}
use Rattle.edi_record.specs.declared.name.Name.{Name}
use Rattle.edi_record.specs.Shapes.{kind_code}
use Rattle.edi_schema.specs.Classes.{Classes, class_name_at, class_at}
use Rattle.edi_plan.specs.Plans.{PlanData, record_at, same_kind}
use Rattle.edi_plan.specs.declared.record.PlanRecord.{PlanRecord}
use Rattle.edi_plan.specs.declared.record.PlanAttribute.{PlanAttribute}
use Rattle.edi_plan.specs.declared.record.PlanEnd.{PlanEnd}

-- a name without type and identifier
abbrev pub no_name : Name
no_name = record { rty = []; rid = [] }

-- the name of a class
abbrev pub class_name_of : Classes → ℕ → Name
class_name_of s class = unwrap_or (class_name_at s class) no_name

-- the letter of a class
abbrev pub class_letter_of : Classes → ℕ → ℕ
class_letter_of s class = unwrap_or (option_map (λ c. c.letter) (class_at s class)) letter_a

-- the letter of a type
abbrev pub kind_letter : Kind → List ℕ
kind_letter Pno = codes "N"
kind_letter Par = codes "A"
kind_letter Pfe = codes "F"
kind_letter Fea = codes "O"
kind_letter Lnk = codes "L"

-- the identifier of a record: the letter of its type and its number
abbrev pub identifier : Kind → ℕ → List ℕ
identifier kind number = kind_letter kind ++ decimal number

-- the zones of an attribute: its class, its character set if any, its value
abbrev pub attribute_zones : Classes → PlanAttribute → List ZoneData
attribute_zones s a =
    attribute_zone (class_name_of s a.atp)
    ∷ (map set_zone (option_to_list a.tex) ++ value_zone (class_letter_of s a.atp) a.value ∷ [])

-- what stands in front of the body: the type, the identifier and the class
abbrev pub head_zones : Classes → ℕ → PlanRecord → List ZoneData
head_zones s number r =
    type_zone r.kind ∷ identifier_zone (identifier r.kind number) ∷ class_zone (class_name_of s r.class) ∷ []

-- what stands behind it: the count of the attributes, these, and the extra zones
abbrev pub tail_zones : Classes → PlanRecord → List ZoneData
tail_zones s r =
    attribute_count_zone (length r.attributes) ∷ (flat_map (attribute_zones s) r.attributes ++ map extra_zone r.extras)

module _ (s : Classes) (p : PlanData) where
  -- the number of a record: one more than the records of its type before it
  abbrev pub number_in : ℕ → ℕ
  number_in place = count_by (λ r. same_kind (record_at p place).kind r.kind) (take place p.list) + 1

  -- the name that the record at a place gets
  abbrev pub name_in : ℕ → Name
  name_in place =
      record { rty = kind_code (record_at p place).kind; rid = identifier (record_at p place).kind (number_in place) }

  -- the zones of an end: what it names, and its SNS if any
  abbrev pub end_zones : PlanEnd → List ZoneData
  end_zones e = target_zone (name_in e.target) ∷ map sns_zone (option_to_list e.sns)

  -- what stands between the class and the attributes
  abbrev pub body_zones : Kind → PlanRecord → List ZoneData
  body_zones Pno r = map point_zone r.points
  body_zones Par r = point_count_zone (length r.points) ∷ map point_zone r.points
  body_zones Pfe r = []
  body_zones Fea r = []
  body_zones Lnk r = end_count_zone (length r.ends) ∷ flat_map end_zones r.ends

  -- the zones of a record with this number
  abbrev pub record_zones : ℕ → PlanRecord → List ZoneData
  record_zones number r = head_zones s number r ++ (body_zones r.kind r ++ tail_zones s r)

  -- the zones of the records from a place on
  abbrev pub zones_from : ℕ → List PlanRecord → List ZoneData
  zones_from place [] = []
  zones_from place (r ∷ rs) = record_zones (number_in place) r ++ zones_from (place + 1) rs

  -- all zones: the begin, the character set if any, the records, the end
  abbrev pub sheet_zones : List ZoneData
  sheet_zones = begin_zone ∷ (map cse_zone (option_to_list p.cse) ++ (zones_from 0 p.list ++ end_zone ∷ []))

  -- the file of the records in their order
  unfoldable pub layout : List ℕ
  layout = printed sheet_zones
