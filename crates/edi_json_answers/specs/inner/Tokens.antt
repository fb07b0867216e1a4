-- The tokens of parts of the line of an answer.
use Rattle.std.specs.Prelude.{ℕ, List, ◌++◌, codes}
use Rattle.json.specs.Json.{string}
use Rattle.json.specs.Token.{Token}
use Rattle.edi_json.specs.Members.{member_tokens, opening_tokens}

-- what the line of an answer begins with
abbrev pub answer_tokens : List ℕ → List Token
answer_tokens answer = opening_tokens (codes "answer") ++ member_tokens (codes "answer") (string answer)

-- what the line of a refusal begins with
abbrev pub refused_tokens : List ℕ → List Token
refused_tokens file = answer_tokens (codes "refused") ++ member_tokens (codes "file") (string file)
