-- How many records of a plan have each class.
use Rattle.std.specs.Prelude.{◌≡◌, ◌++◌, ◌==◌, ℕ, suc, List, [], ◌∷◌, codes, count_by, decimal, if◌then◌else◌}
use Rattle.std.specs.Map.{keys_of}
use Rattle.edi_line.specs.Bytes.{line_feed}
use Rattle.edi_plan.specs.Plans.{PlanData}
use Rattle.edi_record.specs.declared.name.Name.{Name}
use Rattle.edi_schema.specs.Classes.{Classes}
use Rattle.edi_explain.specs.Explained.{DescribesPlan}
use Rattle.edi_explain.specs.ExtraZones.{extra_line}
use Rattle.edi_shown.specs.Shown.{shown_bytes}

-- how many records of a plan have the class at a place of the schema, from 0
abbrev pub count_of_class : PlanData → ℕ → ℕ
count_of_class p class = count_by (λ r. r.class == class) p.list

-- class TYPE IDENTIFIER: COUNT, where any record has the class
abbrev pub class_count_line : Name → ℕ → List ℕ
class_count_line name count = if count == 0 then []
    else codes "class " ++ shown_bytes name.rty ++ codes " " ++ shown_bytes name.rid ++ codes ": "
    ++ decimal count ++ line_feed ∷ []

-- those lines on classes in turn, of which the first is at this place
abbrev pub class_count_lines : PlanData → ℕ → List Name → List ℕ
class_count_lines p place [] = []
class_count_lines p place (name ∷ names) =
    class_count_line name (count_of_class p place) ++ class_count_lines p (suc place) names

-- the lines on the classes of a schema that records of a plan have, in the order of their names
abbrev pub DescribesClasses : Classes → PlanData → List ℕ → Type 0
DescribesClasses s p lines = lines ≡ class_count_lines p 0 (keys_of s)

-- the lines on an accepted sheet: those on its plan, those on its classes, and the line on its extra zones
abbrev pub DescribesSheet : Classes → PlanData → List ℕ → Type 0
DescribesSheet s p lines = (plan classes : List ℕ) × DescribesPlan p plan × DescribesClasses s p classes
    × (lines ≡ plan ++ classes ++ extra_line p)
