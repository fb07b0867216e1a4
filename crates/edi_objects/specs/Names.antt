-- What the text calls classes and objects.
use Rattle.std.specs.Prelude.{ℕ, List, [], ◌∷◌, ◌++◌, take, codes, bytes_eq, if◌then◌else◌, unwrap_or, option_map}
use Rattle.std.specs.List.{flat_map, list_any}
use Rattle.edi_line.specs.Number.{plain_text}
use Rattle.edi_record.specs.declared.record.Value.{Value}
use Rattle.edi_record.specs.declared.record.Value.TheVariants.{Number, Bytes}
use Rattle.edi_schema.specs.Classes.{Classes, class_name_at}
use Rattle.edi_plan.specs.declared.record.PlanAttribute.{PlanAttribute}
use Rattle.edi_plan.specs.declared.record.PlanRecord.{PlanRecord}
use Rattle.edi_shown.specs.Shown.{shown_bytes}

-- a schema, and the identifiers of the classes of attributes by which people know objects
pub record Naming : Type 0 where
  pub classes : Classes
  pub identifiers : List (List ℕ)

-- the schema with the identifiers of the attributes that name objects of the cadastral plan
abbrev pub usual_naming : Classes → Naming
usual_naming s = record {
  classes = s;
  identifiers = codes "IDU_id" ∷ codes "TEX_id" ∷ codes "TEX2_id" ∷ codes "NUM_id" ∷ codes "NOM_id" ∷ [];
}

-- the identifier of a class
abbrev pub class_identifier : Classes → ℕ → List ℕ
class_identifier s class = unwrap_or (option_map (λ name. name.rid) (class_name_at s class)) []

unfoldable pub shown_class : Classes → ℕ → List ℕ
shown_class s class = shown_bytes (class_identifier s class)

-- a value: a number in its plain spelling, or the bytes
abbrev pub shown_value : Value → List ℕ
shown_value (Number n) = plain_text n
shown_value (Bytes bytes) = shown_bytes bytes

-- of how many of its attributes those that name an object are sought, and how many bytes of each are shown
abbrev pub most_sought : ℕ
most_sought = 32

abbrev pub most_shown : ℕ
most_shown = 80

-- a value, of which so many bytes are shown
abbrev pub short_text : Value → List ℕ
short_text (Number n) = plain_text n
short_text (Bytes bytes) = shown_bytes (take most_shown bytes)

-- the class of an attribute, and its value, if it is one by which people know objects
abbrev pub naming_text : Naming → PlanAttribute → List ℕ
naming_text n a =
    if list_any (bytes_eq (class_identifier n.classes a.atp)) n.identifiers
    then codes " " ++ shown_class n.classes a.atp ++ codes " " ++ short_text a.value
    else []

-- the class of an object, and the attributes by which people know it
abbrev pub object_name : Naming → PlanRecord → List ℕ
object_name n r = shown_class n.classes r.class ++ flat_map (naming_text n) (take most_sought r.attributes)
