-- What people call records on a plan.
use Rattle.std.specs.Prelude.{ℕ, ◌==◌, ◌&&◌, ◌||◌, Bool, not, List, [], ◌∷◌, ◌++◌, Option, Some, None, bytes_eq, codes, find, length, map, nat_le, nat_lt, take, unwrap_or, if◌then◌else◌}
use Rattle.std.specs.List.{list_any}
use Rattle.std.specs.Option.{option_map_or}
use Rattle.edi_record.specs.declared.record.Kind.TheVariants.{Lnk}
use Rattle.edi_record.specs.declared.record.Value.{Value}
use Rattle.edi_record.specs.declared.record.Value.TheVariants.{Number, Bytes}
use Rattle.edi_schema.specs.Classes.{Classes}
use Rattle.edi_plan.specs.Places.{places_of}
use Rattle.edi_plan.specs.Plans.{PlanData, is_object, record_at}
use Rattle.edi_plan.specs.Sides.{targets}
use Rattle.edi_plan.specs.declared.record.PlanAttribute.{PlanAttribute}
use Rattle.edi_plan.specs.declared.record.PlanRecord.{PlanRecord}
use Rattle.edi_picture.specs.Sheets.{class_name}

-- the identifiers of the attributes whose values stand on maps: texts, numbers and names
abbrev pub label_identifiers : List (List ℕ)
label_identifiers = codes "TEX_id" ∷ codes "TEX2_id" ∷ codes "NUM_id" ∷ codes "NOM_id" ∷ []

abbrev pub is_label : List ℕ → Bool
is_label identifier = list_any (bytes_eq identifier) label_identifiers

-- the first 40 of the bytes of a value
abbrev pub label_value : Value → List ℕ
label_value (Number n) = []
label_value (Bytes bytes) = take 40 bytes

abbrev pub attribute_label : Classes → PlanAttribute → List ℕ
attribute_label s a = if is_label (class_name s a.atp).rid then label_value a.value else []

abbrev pub is_something : List ℕ → Bool
is_something text = not (length text == 0)

-- what people call an object: the first of these among its first 32 attributes that is something
abbrev pub object_label : Classes → PlanRecord → List ℕ
object_label s r = unwrap_or (find is_something (map (attribute_label s) (take 32 r.attributes))) []

-- what a link calls whatever it names: what people call the object that it names first
abbrev pub link_label : Classes → PlanData → ℕ → List ℕ
link_label s p link = option_map_or (λ k. object_label s (record_at p k))
    (find (λ k. is_object (record_at p k).kind) (targets (record_at p link))) []

-- a link names the record at a place
abbrev pub names : PlanData → ℕ → ℕ → Bool
names p k link = list_any (λ e. e.target == k) (record_at p link).ends

-- a link names at most four records: so do those of parcels, and those of communes and sections mostly name more
abbrev pub names_few : PlanData → ℕ → Bool
names_few p link = nat_le (length (record_at p link).ends) 4

-- such a link calls the record at a place something
abbrev pub calls : Classes → PlanData → ℕ → ℕ → Bool
calls s p k link = names p k link && (names_few p link && is_something (link_label s p link))

-- what the first link that does so calls it
abbrev pub label_of : Classes → PlanData → ℕ → List ℕ
label_of s p k =
    if nat_lt k (length p.list) then option_map_or (link_label s p) (find (calls s p k) (places_of Lnk p)) [] else []

-- the same of a record that another may be
abbrev pub label_there : Classes → PlanData → Option ℕ → List ℕ
label_there s q None = []
label_there s q (Some j) = label_of s q j

-- what a record is called in one sheet, and, if it is called otherwise there, in the other
abbrev pub both_labels : List ℕ → List ℕ → List ℕ
both_labels here there =
    if bytes_eq here there || length there == 0 then here else here ++ codes " -> " ++ there
