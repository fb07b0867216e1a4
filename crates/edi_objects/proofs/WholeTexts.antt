-- What the text consists of is whole lines.
use Rattle.std.proofs.Common.{◌++◌, ℕ, Bool, List, [], ◌∷◌, Option, Some, None, bytes_eq, codes, decimal, length, refl, slice_index_or, take, ◌==◌, ◌||◌, if◌then◌else◌}
use Rattle.std.specs.List.{flat_map, range_with_len}
use Rattle.edi_line.specs.Bytes.{line_feed}
use Rattle.edi_record.specs.declared.record.Kind.{Kind}
use Rattle.edi_record.specs.declared.record.Kind.TheVariants.{Pno, Par, Pfe, Fea}
use Rattle.edi_schema.specs.Classes.{Classes}
use Rattle.edi_schema.specs.Sorted.{sort_by}
use Rattle.edi_plan.specs.Orders.{attribute_cmp}
use Rattle.edi_plan.specs.Places.{places_of}
use Rattle.edi_plan.specs.Plans.{record_at}
use Rattle.edi_plan.specs.Sides.{targets}
use Rattle.edi_plan.specs.declared.record.PlanAttribute.{PlanAttribute}
use Rattle.edi_plan.specs.declared.record.PlanRecord.{PlanRecord}
use Rattle.edi_report.specs.Lines.{both_lines, charset_change, charset_change_line, charsets_line, is_reached, words_text}
use Rattle.edi_report.specs.Reports.{Report, parts_at, site_at}
use Rattle.edi_report.specs.declared.parts.DifferingParts.{DifferingParts}
use Rattle.edi_report.specs.declared.sheet.LocatedSheet.{LocatedSheet}
use Rattle.edi_shown.specs.Shown.{shown_bytes}
use Rattle.edi_objects.specs.Accounts.{bare_link, bare_link_by, first_bare_link, is_told_beside, objects_of, record_line_text, second_bare_link, shapes_of}
use Rattle.edi_objects.specs.Bounds.{outline_counts}
use Rattle.edi_objects.specs.Attributes.{are_alike, attribute_line, attribute_lines, class_line_at, class_values, classes_of_both, is_repeated, of_class, shown_values}
use Rattle.edi_objects.specs.Differing.{arrives, became_of, is_differing, same_of}
use Rattle.edi_objects.specs.Elements.{change_text, changed_element, element_text, elements_of, first_element, line_of_element, lone_element, most_named, name_of_record, others_text, second_element}
use Rattle.edi_objects.specs.LinksOf.{links_of}
use Rattle.edi_objects.specs.Names.{Naming, shown_class}
use Rattle.edi_objects.specs.Objects.{attributes_change, class_change, differing_link, extras_change, first_link, first_object, further_line, has_further_outline, has_other_outline, link_text, object_by, object_header, object_lines, outline_line, outline_lines, outline_name, outline_text, own_changes, own_lines, second_link, second_object}
use Rattle.edi_objects.specs.Telling.{AreWholeLines}
use Rattle.edi_objects.proofs.TextLines.{whole_append, whole_behind, whole_flat, whole_if, whole_line}

-- ---- attributes

values_whole : (s : Classes) (class : ℕ) (here there : List PlanAttribute) → AreWholeLines (class_values s class here there)
values_whole s class here there = whole_if (are_alike here there) [] (codes "    " ++ shown_class s class ++ codes ":" ++ shown_values here ++ codes " ->" ++ shown_values there ++ line_feed ∷ [])
    refl (whole_line (codes "    " ++ shown_class s class ++ codes ":" ++ shown_values here ++ codes " ->" ++ shown_values there))

class_line_whole : (s : Classes) (here there : List PlanAttribute) (classes : List ℕ) (k : ℕ) → AreWholeLines (class_line_at s here there classes k)
class_line_whole s here there classes k = whole_if (is_repeated classes k) [] (attribute_line s here there (slice_index_or classes k 0)) refl
    (values_whole s (slice_index_or classes k 0) (of_class (slice_index_or classes k 0) here) (of_class (slice_index_or classes k 0) there))

attributes_whole : (s : Classes) (here there : List PlanAttribute) → AreWholeLines (attribute_lines s here there)
attributes_whole s here there = whole_flat (class_line_at s (sort_by attribute_cmp here) (sort_by attribute_cmp there) (classes_of_both here there))
    (class_line_whole s (sort_by attribute_cmp here) (sort_by attribute_cmp there) (classes_of_both here there)) (range_with_len 0 (length (classes_of_both here there)))

-- ---- an object's own parts

class_whole : (n : Naming) (said : Bool) (a b : PlanRecord) → AreWholeLines (class_change n said a b)
unfolding class_change
class_whole n said a b = whole_if said (codes "    class: " ++ shown_class n.classes a.class ++ codes " -> " ++ shown_class n.classes b.class ++ line_feed ∷ []) []
    (whole_line (codes "    class: " ++ shown_class n.classes a.class ++ codes " -> " ++ shown_class n.classes b.class)) refl

attributes_change_whole : (n : Naming) (said : Bool) (a b : PlanRecord) → AreWholeLines (attributes_change n said a b)
unfolding attributes_change
attributes_change_whole n said a b = whole_if said (attribute_lines n.classes a.attributes b.attributes) [] (attributes_whole n.classes a.attributes b.attributes) refl

extras_whole : (said : Bool) → AreWholeLines (extras_change said)
unfolding extras_change
extras_whole said = whole_if said (codes "    extra zones" ++ line_feed ∷ []) [] (whole_line (codes "    extra zones")) refl

own_changes_whole : (n : Naming) (parts : DifferingParts) (a b : PlanRecord) → AreWholeLines (own_changes n parts a b)
own_changes_whole n parts a b =
    whole_append (class_change n parts.class a b ++ attributes_change n parts.attributes a b) (extras_change parts.extras)
    (whole_append (class_change n parts.class a b) (attributes_change n parts.attributes a b) (class_whole n parts.class a b) (attributes_change_whole n parts.attributes a b))
    (extras_whole parts.extras)

module _ (n : Naming) (r : Report) where
  own_whole_by : (i j : ℕ) (same : Option ℕ) → AreWholeLines (own_lines n r i j same)
  own_whole_by i j (Some k) = refl
  own_whole_by i j None = own_changes_whole n (parts_at r.parts i) (record_at r.first.accepted i) (record_at r.second.accepted j)

  pub own_whole : (i j : ℕ) → AreWholeLines (own_lines n r i j (same_of r i))
  own_whole i j = own_whole_by i j (same_of r i)

  -- ---- what an object is linked with

  pub lone_whole : (sign : List ℕ) (sheet : LocatedSheet) (k : ℕ) → AreWholeLines (lone_element sign n sheet k)
  lone_whole sign sheet k = whole_line (sign ++ element_text n sheet k)

  pub differing_whole : (i link : ℕ) (went : Option ℕ) (parts : DifferingParts) → AreWholeLines (differing_link n r i link went parts)
  differing_whole i link None parts = whole_line (link_text (codes "    - ") n r i link)
  differing_whole i link (Some k) parts = whole_if parts.ends (link_text (codes "    - ") n r i link ++ line_feed ∷ []) (link_text (codes "    ~ ") n r i link ++ codes ":" ++ words_text parts ++ line_feed ∷ [])
      (whole_line (link_text (codes "    - ") n r i link)) (whole_line (link_text (codes "    ~ ") n r i link ++ codes ":" ++ words_text parts))

  outline_whole : (k : ℕ) → AreWholeLines (outline_line n r k)
  outline_whole k = whole_if (has_other_outline r k) (outline_text n r k) [] (whole_line (outline_name n r k ++ outline_counts r k)) refl

  further_whole : (link : ℕ) → AreWholeLines (further_line r link)
  further_whole link = whole_if (has_further_outline r link) (codes "    outline of others" ++ line_feed ∷ []) [] (whole_line (codes "    outline of others")) refl

  outline_lines_whole : (link : ℕ) → AreWholeLines (outline_lines n r link)
  outline_lines_whole link = whole_append (flat_map (outline_line n r) (take most_named (targets (record_at r.first.accepted link)))) (further_line r link)
      (whole_flat (outline_line n r) outline_whole (take most_named (targets (record_at r.first.accepted link)))) (further_whole link)

  pub first_link_whole : (i link : ℕ) → AreWholeLines (first_link n r i link)
  first_link_whole i link = whole_if (is_differing r link) (differing_link n r i link (became_of r link) (parts_at r.parts link))
      (outline_lines n r link) (differing_whole i link (became_of r link) (parts_at r.parts link)) (outline_lines_whole link)

  pub second_link_whole : (j link : ℕ) → AreWholeLines (second_link n r j link)
  second_link_whole j link = whole_if (arrives r link)
      (codes "    + " ++ shown_class n.classes (record_at r.second.accepted link).class ++ codes ":" ++ others_text n r.second (Some j) (record_at r.second.accepted link) ++ line_feed ∷ []) []
      (whole_line (codes "    + " ++ shown_class n.classes (record_at r.second.accepted link).class ++ codes ":" ++ others_text n r.second (Some j) (record_at r.second.accepted link))) refl

  pub first_links_whole : (i : ℕ) → AreWholeLines (flat_map (first_link n r i) (links_of r.first.accepted i))
  first_links_whole i = whole_flat (first_link n r i) (first_link_whole i) (links_of r.first.accepted i)

  second_links_whole : (j : ℕ) → AreWholeLines (flat_map (second_link n r j) (links_of r.second.accepted j))
  second_links_whole j = whole_flat (second_link n r j) (second_link_whole j) (links_of r.second.accepted j)

  object_lines_whole : (i j : ℕ) → AreWholeLines (object_lines n r i j)
  object_lines_whole i j =
      whole_append (own_lines n r i j (same_of r i) ++ flat_map (first_link n r i) (links_of r.first.accepted i)) (flat_map (second_link n r j) (links_of r.second.accepted j))
      (whole_append (own_lines n r i j (same_of r i)) (flat_map (first_link n r i) (links_of r.first.accepted i)) (own_whole i j) (first_links_whole i)) (second_links_whole j)

  -- ---- objects

  header_whole : (i j : ℕ) → AreWholeLines (object_header n r i j)
  header_whole i j = whole_line (codes "~ " ++ name_of_record n r.first i ++ both_lines (site_at r.first i).line (site_at r.second j).line)

  object_whole_by : (i : ℕ) (went : Option ℕ) → AreWholeLines (object_by n r i went)
  object_whole_by i None = lone_whole (codes "- ") r.first i
  object_whole_by i (Some j) = whole_if (length (object_lines n r i j) == 0) [] (object_header n r i j ++ object_lines n r i j) refl
      (whole_append (object_header n r i j) (object_lines n r i j) (header_whole i j) (object_lines_whole i j))

  pub first_object_whole : (i : ℕ) → AreWholeLines (first_object n r i)
  first_object_whole i = object_whole_by i (became_of r i)

  pub second_object_whole : (j : ℕ) → AreWholeLines (second_object n r j)
  second_object_whole j = whole_if (is_reached r.became j) [] (lone_element (codes "+ ") n r.second j) refl (lone_whole (codes "+ ") r.second j)

  pub objects_whole : AreWholeLines (objects_of n r)
  objects_whole = whole_append (flat_map (first_object n r) (places_of Fea r.first.accepted)) (flat_map (second_object n r) (places_of Fea r.second.accepted))
      (whole_flat (first_object n r) first_object_whole (places_of Fea r.first.accepted)) (whole_flat (second_object n r) second_object_whole (places_of Fea r.second.accepted))

  -- ---- nodes, arcs and faces

  changed_whole : (i j : ℕ) → AreWholeLines (changed_element n r i j)
  changed_whole i j = whole_line (codes "~ " ++ name_of_record n r.first i ++ both_lines (site_at r.first i).line (site_at r.second j).line
      ++ change_text (parts_at r.parts i) (record_at r.first.accepted i) (record_at r.second.accepted j))

  element_whole_by : (i : ℕ) (went : Option ℕ) → AreWholeLines (line_of_element n r i went)
  element_whole_by i None = lone_whole (codes "- ") r.first i
  element_whole_by i (Some j) = changed_whole i j

  pub first_element_whole : (i : ℕ) → AreWholeLines (first_element n r i)
  first_element_whole i = whole_if (is_differing r i) (line_of_element n r i (became_of r i)) [] (element_whole_by i (became_of r i)) refl

  pub second_element_whole : (j : ℕ) → AreWholeLines (second_element n r j)
  second_element_whole j = whole_if (is_reached r.became j) [] (lone_element (codes "+ ") n r.second j) refl (lone_whole (codes "+ ") r.second j)

  pub elements_whole : (kind : Kind) → AreWholeLines (elements_of n r kind)
  elements_whole kind = whole_append (flat_map (first_element n r) (places_of kind r.first.accepted)) (flat_map (second_element n r) (places_of kind r.second.accepted))
      (whole_flat (first_element n r) first_element_whole (places_of kind r.first.accepted)) (whole_flat (second_element n r) second_element_whole (places_of kind r.second.accepted))

  pub shapes_whole : AreWholeLines (shapes_of n r)
  shapes_whole = whole_append (elements_of n r Pfe ++ elements_of n r Par) (elements_of n r Pno)
      (whole_append (elements_of n r Pfe) (elements_of n r Par) (elements_whole Pfe) (elements_whole Par)) (elements_whole Pno)

  -- ---- links that are told nowhere else

  bare_whole_by : (i : ℕ) (went : Option ℕ) → AreWholeLines (bare_link_by n r i went)
  bare_whole_by i None = whole_behind (codes "- " ++ bare_link n r.first i) (codes " (line " ++ decimal (site_at r.first i).line ++ codes ")")
  bare_whole_by i (Some j) = whole_behind (codes "~ " ++ bare_link n r.first i) (both_lines (site_at r.first i).line (site_at r.second j).line ++ words_text (parts_at r.parts i))

  pub first_bare_whole : (i : ℕ) → AreWholeLines (first_bare_link n r i)
  first_bare_whole i = whole_if (is_differing r i) (if is_told_beside (is_differing r) r.first.accepted i then [] else bare_link_by n r i (became_of r i)) []
      (whole_if (is_told_beside (is_differing r) r.first.accepted i) [] (bare_link_by n r i (became_of r i)) refl (bare_whole_by i (became_of r i))) refl

  pub second_bare_whole : (j : ℕ) → AreWholeLines (second_bare_link n r j)
  second_bare_whole j = whole_if (is_reached r.became j || is_told_beside (arrives r) r.second.accepted j) [] (codes "+ " ++ bare_link n r.second j ++ record_line_text r.second j) refl
      (whole_behind (codes "+ " ++ bare_link n r.second j) (codes " (line " ++ decimal (site_at r.second j).line ++ codes ")"))

  -- ---- character sets

  charset_whole : (one other : List ℕ) → AreWholeLines (charset_change one other)
  charset_whole one other = whole_line (codes "~ CSE " ++ shown_bytes one ++ codes " " ++ shown_bytes other)

  charset_line_whole : (one other : Option (List ℕ)) → AreWholeLines (charset_change_line one other)
  charset_line_whole None None = refl
  charset_line_whole (Some a) None = charset_whole a (codes "none")
  charset_line_whole None (Some b) = charset_whole (codes "none") b
  charset_line_whole (Some a) (Some b) = whole_if (bytes_eq a b) [] (charset_change a b) refl (charset_whole a b)

  pub charsets_whole : AreWholeLines (charsets_line r)
  charsets_whole = charset_line_whole r.first.accepted.cse r.second.accepted.cse
