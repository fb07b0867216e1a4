-- The tokens of members.
use Rattle.std.specs.Prelude.{ℕ, List, ◌∷◌, ◌++◌, codes}
use Rattle.json.specs.Json.{Json, string}
use Rattle.json.specs.Token.{Token}
use Rattle.json.specs.Tree.{json_tokens}
use Rattle.edi_json.specs.Values.{number_value}

-- a name and its value
abbrev pub member_tokens : List ℕ → Json → List Token
member_tokens name value = Token.key name ∷ json_tokens value

-- what each line begins with
abbrev pub opening_tokens : List ℕ → List Token
opening_tokens what =
    Token.begin_object
    ∷ (member_tokens (codes "version") (number_value 1) ++ member_tokens (codes "what") (string what))
