-- How many objects of each class differ.
use Rattle.std.specs.Prelude.{ℕ, ◌==◌, ◌&&◌, Bool, false, not, List, [], ◌∷◌, ◌++◌, Option, Some, None, codes, length, count_by, if◌then◌else◌}
use Rattle.std.specs.List.{flat_map, range_with_len}
use Rattle.edi_line.specs.Bytes.{line_feed}
use Rattle.edi_record.specs.declared.record.Kind.TheVariants.{Fea}
use Rattle.edi_plan.specs.Places.{places_of}
use Rattle.edi_plan.specs.Plans.{PlanData, record_at}
use Rattle.edi_report.specs.Lines.{counted, is_none, is_reached}
use Rattle.edi_report.specs.Reports.{Report}
use Rattle.edi_objects.specs.Differing.{became_of}
use Rattle.edi_objects.specs.Names.{Naming, shown_class}
use Rattle.edi_objects.specs.Objects.{object_lines}

-- the class of the record at a place, where something holds of it
abbrev pub class_if : Bool → PlanData → ℕ → List ℕ
class_if holds p k = if holds then (record_at p k).class ∷ [] else []

-- the class of an object of the first sheet, if it is gone; and of one of the second, if it is new
abbrev pub gone_class : Report → ℕ → List ℕ
gone_class r i = class_if (is_none (became_of r i)) r.first.accepted i

abbrev pub new_class : Report → ℕ → List ℕ
new_class r j = class_if (not (is_reached r.became j)) r.second.accepted j

-- the text has lines of what differs of an object that is or became this one
abbrev pub is_told_changed : Naming → Report → ℕ → Option ℕ → Bool
is_told_changed n r i None = false
is_told_changed n r i (Some j) = not (length (object_lines n r i j) == 0)

abbrev pub changed_class : Naming → Report → ℕ → List ℕ
changed_class n r i = class_if (is_told_changed n r i (became_of r i)) r.first.accepted i

-- the classes of the objects that are gone, of those that are new, and of those that changed
abbrev pub gone_classes : Report → List ℕ
gone_classes r = flat_map (gone_class r) (places_of Fea r.first.accepted)

abbrev pub new_classes : Report → List ℕ
new_classes r = flat_map (new_class r) (places_of Fea r.second.accepted)

abbrev pub changed_classes : Naming → Report → List ℕ
changed_classes n r = flat_map (changed_class n r) (places_of Fea r.first.accepted)

-- how often a class is among these
abbrev pub class_count : ℕ → List ℕ → ℕ
class_count class classes = count_by (λ k. k == class) classes

abbrev pub are_none : ℕ → ℕ → ℕ → Bool
are_none gone new changed = gone == 0 && (new == 0 && changed == 0)

-- so many only in A, so many only in B, so many changed
abbrev pub counts_text : ℕ → ℕ → ℕ → List ℕ
counts_text gone new changed = counted gone (codes " only in A, ") ++ counted new (codes " only in B, ")
    ++ counted changed (codes " changed" ++ line_feed ∷ [])

-- CLASS: and that; nothing where there are none
abbrev pub class_counts_line : Naming → ℕ → ℕ → ℕ → ℕ → List ℕ
class_counts_line n class gone new changed =
    if are_none gone new changed then [] else shown_class n.classes class ++ codes ": " ++ counts_text gone new changed

abbrev pub class_total : Naming → Report → ℕ → List ℕ
class_total n r class =
    class_counts_line n class (class_count class (gone_classes r)) (class_count class (new_classes r))
    (class_count class (changed_classes n r))

-- the line of each class of which objects are told, in the order of the schema
abbrev pub class_totals : Naming → Report → List ℕ
class_totals n r = flat_map (class_total n r) (range_with_len 0 (length n.classes))
