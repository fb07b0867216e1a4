-- How the text tells that an object differs.
use Rattle.std.specs.Prelude.{ℕ, ◌==◌, ◌&&◌, ◌||◌, Bool, false, not, List, [], ◌∷◌, ◌++◌, Option, Some, None, codes, drop, length, take, if◌then◌else◌}
use Rattle.std.specs.List.{flat_map, list_any}
use Rattle.edi_line.specs.Bytes.{line_feed}
use Rattle.edi_record.specs.declared.record.Kind.TheVariants.{Fea}
use Rattle.edi_plan.specs.Places.{places_of}
use Rattle.edi_plan.specs.Plans.{is_object, record_at}
use Rattle.edi_plan.specs.Sides.{targets}
use Rattle.edi_plan.specs.declared.record.PlanRecord.{PlanRecord}
use Rattle.edi_report.specs.Lines.{both_lines, is_reached, words_text}
use Rattle.edi_report.specs.Reports.{Report, parts_at, site_at}
use Rattle.edi_report.specs.declared.parts.DifferingParts.{DifferingParts}
use Rattle.edi_objects.specs.Attributes.{attribute_lines}
use Rattle.edi_objects.specs.Bounds.{outline_counts}
use Rattle.edi_objects.specs.Differing.{arrives, became_of, is_differing, outline_differs, same_of}
use Rattle.edi_objects.specs.Elements.{element_text, most_named, name_of_record, others_text}
use Rattle.edi_objects.specs.LinksOf.{links_of}
use Rattle.edi_objects.specs.Names.{Naming, shown_class}

-- ---- its own parts

unfoldable pub class_change : Naming → Bool → PlanRecord → PlanRecord → List ℕ
class_change n said a b =
    if said
    then codes "    class: " ++ shown_class n.classes a.class
    ++ codes " -> " ++ shown_class n.classes b.class ++ line_feed ∷ []
    else []

unfoldable pub attributes_change : Naming → Bool → PlanRecord → PlanRecord → List ℕ
attributes_change n said a b = if said then attribute_lines n.classes a.attributes b.attributes else []

unfoldable pub extras_change : Bool → List ℕ
extras_change said = if said then codes "    extra zones" ++ line_feed ∷ [] else []

abbrev pub own_changes : Naming → DifferingParts → PlanRecord → PlanRecord → List ℕ
own_changes n parts a b =
    class_change n parts.class a b ++ attributes_change n parts.attributes a b ++ extras_change parts.extras

-- the lines of an object that became the one at the place j, if it isn't that one
abbrev pub own_lines : Naming → Report → ℕ → ℕ → Option ℕ → List ℕ
own_lines n r i j (Some k) = []
own_lines n r i j None =
    own_changes n (parts_at r.parts i) (record_at r.first.accepted i) (record_at r.second.accepted j)

-- ---- what it is linked with

-- a sign, CLASS: and what a link names beside the object
abbrev pub link_text : List ℕ → Naming → Report → ℕ → ℕ → List ℕ
link_text sign n r i link =
    sign ++ shown_class n.classes (record_at r.first.accepted link).class ++ codes ":"
    ++ others_text n r.first (Some i) (record_at r.first.accepted link)

-- a link of the first sheet, by the one that it became and the parts that differ: with other ends it is another link
abbrev pub differing_link : Naming → Report → ℕ → ℕ → Option ℕ → DifferingParts → List ℕ
differing_link n r i link None parts = link_text (codes "    - ") n r i link ++ line_feed ∷ []
differing_link n r i link (Some k) parts =
    if parts.ends then link_text (codes "    - ") n r i link ++ line_feed ∷ []
    else link_text (codes "    ~ ") n r i link ++ codes ":" ++ words_text parts ++ line_feed ∷ []

-- the outline of what a record went to differs
abbrev pub outline_there : Report → Option ℕ → Bool
outline_there r None = false
outline_there r (Some j) = outline_differs (arrives r) r.second.accepted j

-- a node, an arc or a face whose outline differs in either sheet
unfoldable pub has_other_outline : Report → ℕ → Bool
has_other_outline r k =
    not (is_object (record_at r.first.accepted k).kind)
    && (outline_differs (is_differing r) r.first.accepted k || outline_there r (became_of r k))

-- that it does, and how many arcs of a face, or nodes of an arc, are gone, new and changed
unfoldable pub outline_name : Naming → Report → ℕ → List ℕ
outline_name n r k = codes "    outline of " ++ element_text n r.first k

abbrev pub outline_text : Naming → Report → ℕ → List ℕ
outline_text n r k = outline_name n r k ++ outline_counts r k ++ line_feed ∷ []

abbrev pub outline_line : Naming → Report → ℕ → List ℕ
outline_line n r k = if has_other_outline r k then outline_text n r k else []

-- the outline differs of one of the records that a link of the first sheet names behind the first four
unfoldable pub has_further_outline : Report → ℕ → Bool
has_further_outline r link =
    list_any (has_other_outline r) (drop most_named (targets (record_at r.first.accepted link)))

abbrev pub further_line : Report → ℕ → List ℕ
further_line r link = if has_further_outline r link then codes "    outline of others" ++ line_feed ∷ [] else []

-- the lines of what a link of the first sheet names, where outlines differ
abbrev pub outline_lines : Naming → Report → ℕ → List ℕ
outline_lines n r link = flat_map (outline_line n r) (take most_named (targets (record_at r.first.accepted link)))
    ++ further_line r link

-- the lines of a link of the first sheet that names an object
abbrev pub first_link : Naming → Report → ℕ → ℕ → List ℕ
first_link n r i link =
    if is_differing r link then differing_link n r i link (became_of r link) (parts_at r.parts link)
    else outline_lines n r link

-- the line of a link of the second sheet that names an object, if the link is new there
abbrev pub second_link : Naming → Report → ℕ → ℕ → List ℕ
second_link n r j link =
    if arrives r link
    then codes "    + " ++ shown_class n.classes (record_at r.second.accepted link).class ++ codes ":"
    ++ others_text n r.second (Some j) (record_at r.second.accepted link) ++ line_feed ∷ []
    else []

-- ---- objects

-- the lines of the links of the first sheet that name an object, and of those of the second
abbrev pub first_links : Naming → Report → ℕ → List ℕ
first_links n r i = flat_map (first_link n r i) (links_of r.first.accepted i)

abbrev pub second_links : Naming → Report → ℕ → List ℕ
second_links n r j = flat_map (second_link n r j) (links_of r.second.accepted j)

-- what differs of an object of the first sheet that is or became one of the second
abbrev pub object_lines : Naming → Report → ℕ → ℕ → List ℕ
object_lines n r i j = own_lines n r i j (same_of r i) ++ first_links n r i ++ second_links n r j

-- ~ NAME (lines LINE and LINE):
abbrev pub object_header : Naming → Report → ℕ → ℕ → List ℕ
object_header n r i j =
    codes "~ " ++ name_of_record n r.first i ++ both_lines (site_at r.first i).line (site_at r.second j).line
    ++ line_feed ∷ []

-- that, and below it what differs, if anything does
abbrev pub object_block : Naming → Report → ℕ → ℕ → List ℕ → List ℕ
object_block n r i j lines = if length lines == 0 then [] else object_header n r i j ++ lines

abbrev pub object_by : Naming → Report → ℕ → Option ℕ → List ℕ
object_by n r i None = codes "- " ++ element_text n r.first i ++ line_feed ∷ []
object_by n r i (Some j) = object_block n r i j (object_lines n r i j)

-- an object of the first sheet, and one of the second that is new
abbrev pub first_object : Naming → Report → ℕ → List ℕ
first_object n r i = object_by n r i (became_of r i)

abbrev pub second_object : Naming → Report → ℕ → List ℕ
second_object n r j = if is_reached r.became j then [] else codes "+ " ++ element_text n r.second j ++ line_feed ∷ []

-- all of the first sheet, and all of the second
abbrev pub first_objects : Naming → Report → List ℕ
first_objects n r = flat_map (first_object n r) (places_of Fea r.first.accepted)

abbrev pub second_objects : Naming → Report → List ℕ
second_objects n r = flat_map (second_object n r) (places_of Fea r.second.accepted)
