-- How the attributes of two objects differ, class by class.
use Rattle.std.specs.Prelude.{ℕ, ◌-◌, ◌==◌, Bool, false, List, [], ◌∷◌, ◌++◌, codes, filter, map, length, slice_index_or, if◌then◌else◌}
use Rattle.std.specs.List.{flat_map, range_with_len}
use Rattle.std.specs.Cmp.Lexicographic.{slice_cmp}
use Rattle.std.specs.Ordering.{is_eq, nat_cmp}
use Rattle.edi_line.specs.Bytes.{line_feed}
use Rattle.edi_schema.specs.Classes.{Classes}
use Rattle.edi_schema.specs.Sorted.{sort_by}
use Rattle.edi_plan.specs.Orders.{attribute_cmp}
use Rattle.edi_plan.specs.declared.record.PlanAttribute.{PlanAttribute}
use Rattle.edi_objects.specs.Names.{shown_class, shown_value}

-- those of a class
abbrev pub of_class : ℕ → List PlanAttribute → List PlanAttribute
of_class class attributes = filter (λ a. a.atp == class) attributes

-- the values, with a comma between each two, or that there is none
abbrev pub shown_values : List PlanAttribute → List ℕ
shown_values [] = codes " none"
shown_values (a ∷ more) = codes " " ++ shown_value a.value ++ flat_map (λ b. codes ", " ++ shown_value b.value) more

abbrev pub are_alike : List PlanAttribute → List PlanAttribute → Bool
are_alike here there = is_eq (slice_cmp attribute_cmp here there)

-- CLASS: VALUES -> VALUES, if the attributes of the class differ
abbrev pub class_values : Classes → ℕ → List PlanAttribute → List PlanAttribute → List ℕ
class_values s class here there =
    if are_alike here there then []
    else codes "    " ++ shown_class s class ++ codes ":"
    ++ shown_values here ++ codes " ->" ++ shown_values there ++ line_feed ∷ []

-- the classes of the attributes of both, in order
abbrev pub classes_of_both : List PlanAttribute → List PlanAttribute → List ℕ
classes_of_both here there = sort_by nat_cmp (map (λ a. a.atp) (here ++ there))

-- a number of a list is the one before it
abbrev pub is_repeated : List ℕ → ℕ → Bool
is_repeated classes k = if k == 0 then false else slice_index_or classes (k - 1) 0 == slice_index_or classes k 0

-- the line of a class, of attributes in order
abbrev pub attribute_line : Classes → List PlanAttribute → List PlanAttribute → ℕ → List ℕ
attribute_line s here there class = class_values s class (of_class class here) (of_class class there)

abbrev pub class_line_at : Classes → List PlanAttribute → List PlanAttribute → List ℕ → ℕ → List ℕ
class_line_at s here there classes k =
    if is_repeated classes k then [] else attribute_line s here there (slice_index_or classes k 0)

-- a line for each class of which the attributes differ
abbrev pub attribute_lines : Classes → List PlanAttribute → List PlanAttribute → List ℕ
attribute_lines s here there =
    flat_map (class_line_at s (sort_by attribute_cmp here) (sort_by attribute_cmp there) (classes_of_both here there))
    (range_with_len 0 (length (classes_of_both here there)))
