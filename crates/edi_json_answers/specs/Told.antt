-- Words, as lines of JSON (docs/JSON.md, "Explanations").
use Rattle.std.specs.Prelude.{ℕ, List, [], ◌∷◌, ◌==◌, codes, length, map, if◌then◌else◌}
use Rattle.std.specs.List.{slice_split}
use Rattle.json.specs.Json.{Json, member, no_members}
use Rattle.edi_line.specs.Bytes.{line_feed}
use Rattle.edi_json.specs.Values.{line_value, text_value}

-- these pieces without the last one, if that is empty
abbrev pub without_empty_end : List (List ℕ) → List (List ℕ)
without_empty_end [] = []
without_empty_end (piece ∷ []) = if length piece == 0 then [] else piece ∷ []
without_empty_end (piece ∷ next ∷ pieces) = piece ∷ without_empty_end (next ∷ pieces)

-- the lines of a text: what stands between its line feeds, and behind the last one if anything does
abbrev pub text_lines : List ℕ → List (List ℕ)
text_lines text = without_empty_end (slice_split (λ byte. byte == line_feed) text)

-- the value of a line of words
abbrev pub words_value : List ℕ → Json
words_value words = line_value (codes "words") (member (codes "words") (text_value words) no_members)

-- the values of the lines of a text
abbrev pub told_values : List ℕ → List Json
told_values text = map words_value (text_lines text)
