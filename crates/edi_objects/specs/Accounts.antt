-- The text of what differs between two sheets, object by object.
use Rattle.std.specs.Prelude.{ℕ, ◌||◌, Bool, List, [], ◌∷◌, ◌++◌, Option, Some, None, codes, decimal, if◌then◌else◌}
use Rattle.std.specs.List.{flat_map, list_any}
use Rattle.edi_line.specs.Bytes.{line_feed}
use Rattle.edi_record.specs.declared.record.Kind.TheVariants.{Pno, Par, Pfe, Lnk}
use Rattle.edi_plan.specs.Places.{places_of}
use Rattle.edi_plan.specs.Plans.{PlanData, is_object, record_at}
use Rattle.edi_plan.specs.Sides.{targets}
use Rattle.edi_report.specs.Lines.{both_lines, charsets_line, is_reached, totals_line, words_text}
use Rattle.edi_report.specs.Reports.{Report, parts_at, site_at}
use Rattle.edi_report.specs.declared.sheet.LocatedSheet.{LocatedSheet}
use Rattle.edi_objects.specs.Counts.{class_totals}
use Rattle.edi_objects.specs.Differing.{arrives, became_of, is_differing}
use Rattle.edi_objects.specs.Elements.{elements_of, name_of_record, others_text}
use Rattle.edi_objects.specs.Names.{Naming}
use Rattle.edi_objects.specs.Objects.{first_objects, second_objects}

-- how objects are named, two sheets, and what became of the records of the first in the second
pub record NamedReport : Type 0 where
  pub naming : Naming
  pub report : Report

-- A link is told where a record stands that it names: an object, or one of which the test holds.
abbrev pub is_told_beside : (ℕ → Bool) → PlanData → ℕ → Bool
is_told_beside test p link = list_any (λ k. is_object (record_at p k).kind || test k) (targets (record_at p link))

-- NAME: and what the link names
abbrev pub bare_link : Naming → LocatedSheet → ℕ → List ℕ
bare_link n sheet link =
    name_of_record n sheet link ++ codes ":" ++ others_text n sheet None (record_at sheet.accepted link)

abbrev pub record_line_text : LocatedSheet → ℕ → List ℕ
record_line_text sheet k = codes " (line " ++ decimal (site_at sheet k).line ++ codes ")" ++ line_feed ∷ []

-- (lines LINE and LINE): and the parts that differ
abbrev pub changed_parts : Report → ℕ → ℕ → List ℕ
changed_parts r i j =
    both_lines (site_at r.first i).line (site_at r.second j).line ++ words_text (parts_at r.parts i) ++ line_feed ∷ []

-- ~ NAME: and what the link names, and how it differs
abbrev pub changed_link : Naming → Report → ℕ → ℕ → List ℕ
changed_link n r i j = codes "~ " ++ bare_link n r.first i ++ changed_parts r i j

abbrev pub bare_link_by : Naming → Report → ℕ → Option ℕ → List ℕ
bare_link_by n r i None = codes "- " ++ bare_link n r.first i ++ record_line_text r.first i
bare_link_by n r i (Some j) = changed_link n r i j

-- a link of the first sheet that differs, and one of the second that is new, if they aren't told elsewhere
abbrev pub first_bare_link : Naming → Report → ℕ → List ℕ
first_bare_link n r i =
    if is_differing r i
    then (if is_told_beside (is_differing r) r.first.accepted i then [] else bare_link_by n r i (became_of r i))
    else []

abbrev pub second_bare_link : Naming → Report → ℕ → List ℕ
second_bare_link n r j =
    if is_reached r.became j || is_told_beside (arrives r) r.second.accepted j then []
    else codes "+ " ++ bare_link n r.second j ++ record_line_text r.second j

abbrev pub first_bare_links : Naming → Report → List ℕ
first_bare_links n r = flat_map (first_bare_link n r) (places_of Lnk r.first.accepted)

abbrev pub second_bare_links : Naming → Report → List ℕ
second_bare_links n r = flat_map (second_bare_link n r) (places_of Lnk r.second.accepted)

abbrev pub bare_links : Naming → Report → List ℕ
bare_links n r = first_bare_links n r ++ second_bare_links n r

abbrev pub objects_of : Naming → Report → List ℕ
objects_of n r = first_objects n r ++ second_objects n r

-- the faces, the arcs and the nodes that differ
abbrev pub shapes_of : Naming → Report → List ℕ
shapes_of n r = elements_of n r Pfe ++ elements_of n r Par ++ elements_of n r Pno

-- The text: the character sets, the objects, each with what differs of it and of what it is linked with; the faces, the
-- arcs and the nodes that differ, and the links that are told nowhere else; how many objects of each class differ,
-- and how many records.
abbrev pub account_text : Naming → Report → List ℕ
account_text n r =
    charsets_line r ++ objects_of n r ++ shapes_of n r ++ bare_links n r ++ class_totals n r
    ++ codes "records: " ++ totals_line r
