-- The tokens of parts of a line.
use Rattle.std.specs.Prelude.{Bool, ℕ, List, [], ◌∷◌, ◌++◌, codes, if◌then◌else◌}
use Rattle.json.specs.Json.{string}
use Rattle.json.specs.Token.{Token}
use Rattle.edi_record.specs.Shapes.{kind_code}
use Rattle.edi_record.specs.declared.record.Kind.{Kind}
use Rattle.edi_json.specs.Members.{member_tokens, opening_tokens}
use Rattle.edi_json.specs.Values.{text_value}

-- what the line of a record begins with
abbrev pub record_tokens : List ℕ → Kind → List Token
record_tokens mark kind = opening_tokens (codes "record") ++ member_tokens (codes "mark") (string mark)
    ++ member_tokens (codes "type") (text_value (kind_code kind))

-- a name, if there is one
abbrev pub name_tokens : Bool → List ℕ → List Token
name_tokens said name = if said then Token.string name ∷ [] else []
