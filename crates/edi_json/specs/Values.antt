-- The values of JSON that tell what differs between two sheets (docs/JSON.md).
use Rattle.std.specs.Prelude.{ℕ, Bool, List, [], ◌∷◌, ◌++◌, Option, Some, None, bytes_eq, codes, decimal, encode_utf8, map, if◌then◌else◌}
use Rattle.std.specs.List.{flat_map}
use Rattle.json.specs.Json.{Json, null, number, string, array, object, Items, no_items, item, Members, no_members, member}
use Rattle.edi_record.specs.Shapes.{kind_code}
use Rattle.edi_record.specs.declared.record.Kind.{Kind}
use Rattle.edi_plan.specs.Plans.{record_at}
use Rattle.edi_report.specs.Lines.{added_count, changed_count, gone_count}
use Rattle.edi_report.specs.Reports.{Report, no_parts, parts_at, site_at}
use Rattle.edi_report.specs.declared.parts.DifferingParts.{DifferingParts}
use Rattle.edi_report.specs.declared.site.Site.{Site}
use Rattle.edi_json.specs.Listed.{Listed, gone, changed, added, listed}

-- bytes as text: each byte is the character of the same number
abbrev pub characters : List ℕ → List ℕ
characters = flat_map encode_utf8

abbrev pub text_value : List ℕ → Json
text_value bytes = string (characters bytes)

abbrev pub text_or_null : Option (List ℕ) → Json
text_or_null None = null
text_or_null (Some bytes) = text_value bytes

abbrev pub number_value : ℕ → Json
number_value n = number (decimal n)

-- the value of a line: the version of the form, what the line tells, and what it tells of that
abbrev pub line_value : List ℕ → Members → Json
line_value what told = object (member (codes "version") (number_value 1) (member (codes "what") (string what) told))

-- where a record stands: its identifier, and the line of its RTY
abbrev pub site_value : Site → Json
site_value site = object (member (codes "identifier") (text_value site.rid)
    (member (codes "line") (number_value site.line) no_members))

abbrev pub site_or_null : Option Site → Json
site_or_null None = null
site_or_null (Some site) = site_value site

-- a name, if there is one, in front of others
abbrev pub name_if : Bool → List ℕ → Items → Items
name_if said name names = if said then item (string name) names else names

-- the names of the parts that differ
abbrev pub part_names : DifferingParts → Items
part_names parts = name_if parts.class (codes "class") (name_if parts.attributes (codes "attributes")
    (name_if parts.extras (codes "extras") (name_if parts.points (codes "points")
    (name_if parts.ends (codes "ends") no_items))))

-- a record: in which sheet it stands or that it changed, its type, where it stands in A and in B, and the parts that
-- differ
abbrev pub record_value : List ℕ → Kind → Option Site → Option Site → DifferingParts → Json
record_value mark kind a b parts = line_value (codes "record") (member (codes "mark") (string mark)
    (member (codes "type") (text_value (kind_code kind)) (member (codes "a") (site_or_null a)
    (member (codes "b") (site_or_null b) (member (codes "parts") (array (part_names parts)) no_members)))))

-- the value of a record that is listed
abbrev pub listed_value : Report → Listed → Json
listed_value r (gone i) =
    record_value (codes "only_in_a") (record_at r.first.accepted i).kind (Some (site_at r.first i)) None no_parts
listed_value r (changed i j) = record_value (codes "changed") (record_at r.first.accepted i).kind
    (Some (site_at r.first i)) (Some (site_at r.second j)) (parts_at r.parts i)
listed_value r (added j) =
    record_value (codes "only_in_b") (record_at r.second.accepted j).kind None (Some (site_at r.second j)) no_parts

abbrev pub listed_values : Report → List Listed → List Json
listed_values r records = map (listed_value r) records

-- two character sets
abbrev pub charsets_value : Option (List ℕ) → Option (List ℕ) → Json
charsets_value a b = line_value (codes "charsets") (member (codes "a") (text_or_null a)
    (member (codes "b") (text_or_null b) no_members))

-- the same, where they differ
abbrev pub charsets_values : Option (List ℕ) → Option (List ℕ) → List Json
charsets_values None None = []
charsets_values (Some a) None = charsets_value (Some a) None ∷ []
charsets_values None (Some b) = charsets_value None (Some b) ∷ []
charsets_values (Some a) (Some b) = if bytes_eq a b then [] else charsets_value (Some a) (Some b) ∷ []

-- how many records stand in A alone, in B alone, and changed
abbrev pub counts_value : ℕ → ℕ → ℕ → Json
counts_value in_a in_b in_both = line_value (codes "counts") (member (codes "only_in_a") (number_value in_a)
    (member (codes "only_in_b") (number_value in_b) (member (codes "changed") (number_value in_both) no_members)))

-- What differs: the character sets, where they do; the records that the text lists, in its order; and their counts.
abbrev pub difference_values : Report → List Json
difference_values r = charsets_values r.first.accepted.cse r.second.accepted.cse ++ listed_values r (listed r)
    ++ counts_value (gone_count r) (added_count r) (changed_count r) ∷ []
