-- The text of what differs between two sheets.
use Rattle.std.specs.Prelude.{◌++◌, ◌==◌, ◌&&◌, ◌||◌, ℕ, Bool, true, false, not, List, [], ◌∷◌, Option, Some, None, codes, decimal, zip, count_by, bytes_eq, length, slice_index_or, if◌then◌else◌}
use Rattle.std.specs.List.{flat_map, list_any, range_with_len}
use Rattle.edi_line.specs.Bytes.{line_feed}
use Rattle.edi_record.specs.Shapes.{kind_code}
use Rattle.edi_record.specs.declared.record.Kind.{Kind}
use Rattle.edi_record.specs.declared.record.Kind.TheVariants.{Pno, Par, Pfe, Fea, Lnk}
use Rattle.edi_plan.specs.Places.{places_of}
use Rattle.edi_plan.specs.Plans.{record_at}
use Rattle.edi_report.specs.Reports.{Report, parts_at, site_at}
use Rattle.edi_report.specs.declared.parts.DifferingParts.{DifferingParts}
use Rattle.edi_report.specs.declared.sheet.LocatedSheet.{LocatedSheet}
use Rattle.edi_shown.specs.Shown.{shown_bytes}

-- TYPE IDENTIFIER
abbrev pub record_name_text : LocatedSheet → ℕ → List ℕ
record_name_text sheet k = kind_code (record_at sheet.accepted k).kind ++ codes " " ++ shown_bytes (site_at sheet k).rid

-- a sign, TYPE IDENTIFIER (line LINE)
abbrev pub lone_line : List ℕ → LocatedSheet → ℕ → List ℕ
lone_line sign sheet k = sign ++ record_name_text sheet k
    ++ codes " (line " ++ decimal (site_at sheet k).line ++ codes ")" ++ line_feed ∷ []

-- a word, if there is one
abbrev pub word_if : Bool → List ℕ → List ℕ
word_if said word = if said then word else []

abbrev pub some_differ : DifferingParts → Bool
some_differ parts = parts.class || (parts.attributes || (parts.extras || (parts.points || parts.ends)))

abbrev pub words_text : DifferingParts → List ℕ
words_text parts = word_if parts.class (codes " class") ++ word_if parts.attributes (codes " attributes")
    ++ word_if parts.extras (codes " extras") ++ word_if parts.points (codes " points")
    ++ word_if parts.ends (codes " ends")

-- the parts that differ; or where none does, that this holds of records only that a link joins with it
abbrev pub parts_text : DifferingParts → List ℕ
parts_text parts = if some_differ parts then words_text parts else codes " linked records"

abbrev pub both_lines : ℕ → ℕ → List ℕ
both_lines line other = codes " (lines " ++ decimal line ++ codes " and " ++ decimal other ++ codes "):"

-- ~ TYPE IDENTIFIER IDENTIFIER
abbrev pub changed_names : Report → ℕ → List ℕ → List ℕ
changed_names r i rid = codes "~ " ++ record_name_text r.first i ++ (codes " " ++ shown_bytes rid)

-- that, the lines of both, and the parts
abbrev pub changed_line : Report → ℕ → ℕ → List ℕ
changed_line r i j = changed_names r i (site_at r.second j).rid
    ++ both_lines (site_at r.first i).line (site_at r.second j).line
    ++ parts_text (parts_at r.parts i) ++ line_feed ∷ []

-- the line of a record of the first sheet, by the one that it is and the one that it became: none if it is
-- one of the second
abbrev pub line_by : Report → ℕ → Option ℕ → Option ℕ → List ℕ
line_by r i (Some k) became = []
line_by r i None (Some j) = changed_line r i j
line_by r i None None = lone_line (codes "- ") r.first i

abbrev pub first_line : Report → ℕ → List ℕ
first_line r i = line_by r i (slice_index_or r.unchanged i None) (slice_index_or r.became i None)

-- a record went to this place
abbrev pub went_to : ℕ → Option ℕ → Bool
went_to j None = false
went_to j (Some k) = k == j

abbrev pub is_reached : List (Option ℕ) → ℕ → Bool
is_reached became j = list_any (went_to j) became

-- the line of a record of the second sheet: none if it is one of the first, or one of these became it
abbrev pub second_line : Report → ℕ → List ℕ
second_line r j = if is_reached r.became j then [] else lone_line (codes "+ ") r.second j

-- the lines of the records of a type of the first sheet, and of the second, in file order
abbrev pub lines_of_first : Report → Kind → List ℕ
lines_of_first r kind = flat_map (first_line r) (places_of kind r.first.accepted)

abbrev pub lines_of_second : Report → Kind → List ℕ
lines_of_second r kind = flat_map (second_line r) (places_of kind r.second.accepted)

-- the lines of the records of a type: those of the first sheet, and those of the second
abbrev pub lines_of : Report → Kind → List ℕ
lines_of r kind = lines_of_first r kind ++ lines_of_second r kind

abbrev pub charset_change : List ℕ → List ℕ → List ℕ
charset_change one other = codes "~ CSE " ++ shown_bytes one ++ codes " " ++ shown_bytes other ++ line_feed ∷ []

-- the line of the character sets, where they differ
abbrev pub charset_change_line : Option (List ℕ) → Option (List ℕ) → List ℕ
charset_change_line None None = []
charset_change_line (Some a) None = charset_change a (codes "none")
charset_change_line None (Some b) = charset_change (codes "none") b
charset_change_line (Some a) (Some b) = if bytes_eq a b then [] else charset_change a b

abbrev pub charsets_line : Report → List ℕ
charsets_line r = charset_change_line r.first.accepted.cse r.second.accepted.cse

-- ---- counts

abbrev pub is_none : Option ℕ → Bool
is_none None = true
is_none (Some k) = false

-- of how many records of the first sheet there is no record in the second
abbrev pub gone_count : Report → ℕ
gone_count r = count_by is_none r.became

-- how many records of the second sheet are and were none of the first
abbrev pub added_count : Report → ℕ
added_count r = count_by (λ j. not (is_reached r.became j)) (range_with_len 0 (length r.second.accepted.list))

-- how many records of the first sheet changed
abbrev pub changed_count : Report → ℕ
changed_count r = count_by (λ went. is_none went.0 && not (is_none went.1)) (zip r.unchanged r.became)

-- a count and what it counts
abbrev pub counted : ℕ → List ℕ → List ℕ
counted count words = decimal count ++ words

abbrev pub totals_line : Report → List ℕ
totals_line r = counted (gone_count r) (codes " only in A, ") ++ counted (added_count r) (codes " only in B, ")
    ++ counted (changed_count r) (codes " changed" ++ line_feed ∷ [])

-- The text: the character sets, the objects, the faces, the arcs, the nodes and the links that differ, and how many
-- records do.
abbrev pub report_text : Report → List ℕ
report_text r = charsets_line r
    ++ lines_of r Fea ++ lines_of r Pfe ++ lines_of r Par ++ lines_of r Pno ++ lines_of r Lnk ++ totals_line r

-- the short text: the character sets, where they differ, and how many records do
abbrev pub brief_text : Report → List ℕ
brief_text r = charsets_line r ++ totals_line r

-- the whole text, or the short one
abbrev pub text_of_report : Bool → Report → List ℕ
text_of_report brief r = if brief then brief_text r else report_text r
