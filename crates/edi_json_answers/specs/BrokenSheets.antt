-- The values of JSON of all that sheets break (docs/JSON.md, "All that is broken"), by the name of each sheet's file.
use Rattle.std.specs.Prelude.{◌≡◌, ℕ, List, [], ◌∷◌, None, Some, codes, map, nat_lt, if◌then◌else◌}
use Rattle.json.specs.Json.{Json, member, no_members}
use Rattle.edi_line.specs.declared.broken.BrokenRule.{BrokenRule}
use Rattle.edi_json.specs.Texts.{ReadsAs, json_text}
use Rattle.edi_json.specs.Values.{line_value, number_value, text_value}
use Rattle.edi_json_answers.specs.Answers.{broken_at_value}
use Rattle.edi_json_answers.specs.declared.broken_sheets.RuleCount.{RuleCount}

-- a rule that a sheet breaks: one below 200 at a line, and another at a record
abbrev pub broken_rule_value : List ℕ → BrokenRule → Json
broken_rule_value name it =
    if nat_lt it.rule 200 then broken_at_value (codes "broken") name it.rule (Some it.at) None
    else broken_at_value (codes "broken") name it.rule None (Some it.at)

-- an accepted sheet
abbrev pub accepted_sheet_value : List ℕ → Json
accepted_sheet_value name = line_value (codes "accepted") (member (codes "name") (text_value name) no_members)

-- all that a sheet breaks: each place and rule, or that it is accepted
abbrev pub all_broken_values : List ℕ → List BrokenRule → List Json
all_broken_values name [] = accepted_sheet_value name ∷ []
all_broken_values name (it ∷ others) = map (broken_rule_value name) (it ∷ others)

-- how often a rule is broken
abbrev pub rule_count_value : RuleCount → Json
rule_count_value it = line_value (codes "count") (member (codes "rule") (number_value it.rule)
    (member (codes "count") (number_value it.count) no_members))

-- the text has a line of JSON for each of these values, and a reader finds them there
abbrev pub IsTextOfValues : List ℕ → List Json → Type 0
IsTextOfValues text values = (text ≡ json_text values) × ReadsAs text values
