-- Lines that are appended.
use Rattle.std.specs.Prelude.{◌≡◌, ◌≤◌, ℕ, List, ◌++◌, Some, option_copied}
use Rattle.std.specs.List.{AllByRecursion}
use Rattle.json.specs.Json.{Json, document}
use Rattle.json.specs.Print.{print}
use Rattle.json.specs.Tree.{json_tokens}
use Rattle.edi_json.specs.Texts.{json_text}
use Rattle.edi_json.specs.Values.{record_value}
use Rattle.edi_json.specs.declared.lines.RecordLine.{RecordLine}

-- no byte is a control character
abbrev pub IsPlainText : List ℕ → Type 0
IsPlainText = AllByRecursion (λ byte. 32 ≤ byte)

-- the text of the value is one line, in which a reader finds the value
pub record IsValueInOneLine (value : Json) : Type 0 where
  pub read : document (print (json_tokens value)) ≡ Some value
  pub plain : IsPlainText (print (json_tokens value))

-- the lines of these values more
pub record HasLines (old new : List ℕ) (values : List Json) : Type 0 where
  pub text : new ≡ old ++ json_text values
  pub lines : AllByRecursion IsValueInOneLine values

-- the value of the line of a record
abbrev pub value_of_line : RecordLine → Json
value_of_line l = record_value l.mark.now l.kind (option_copied l.a) (option_copied l.b) l.parts
