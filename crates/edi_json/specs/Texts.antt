-- Values of JSON as text, a line for each.
use Rattle.std.specs.Prelude.{◌≡◌, ℕ, List, [], ◌∷◌, ◌++◌, Some, map}
use Rattle.std.specs.List.{flat_map}
use Rattle.std.specs.Str.Lines.{lines}
use Rattle.json.specs.Json.{Json, document}
use Rattle.json.specs.Print.{print}
use Rattle.json.specs.Tree.{json_tokens}
use Rattle.edi_line.specs.Bytes.{line_feed}
use Rattle.edi_report.specs.Reports.{Report}
use Rattle.edi_json.specs.Values.{difference_values}

-- a value without spaces, and a line feed
abbrev pub json_line : Json → List ℕ
json_line value = print (json_tokens value) ++ line_feed ∷ []

abbrev pub json_text : List Json → List ℕ
json_text = flat_map json_line

-- what differs between two sheets, as lines of JSON
abbrev pub differences_json : Report → List ℕ
differences_json r = json_text (difference_values r)

-- a reader of JSON finds these values in the lines of the text, one in each
abbrev pub ReadsAs : List ℕ → List Json → Type 0
ReadsAs text values = map document (lines text) ≡ map Some values
