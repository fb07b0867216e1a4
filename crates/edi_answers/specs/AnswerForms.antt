-- In which form an answer or a refusal is written.
use Rattle.std.specs.Prelude.{ℕ, List, [], ◌∷◌, ⊤}
use Rattle.edi_files.specs.Reasons.{ended}
use Rattle.edi_outcome.specs.Words.{words_for}
use Rattle.edi_outcome.specs.declared.outcome.Outcome.{Outcome}
use Rattle.json.specs.Json.{Json as JsonValue}
use Rattle.edi_json.specs.Texts.{ReadsAs, json_text}
use Rattle.edi_json_answers.specs.Answers.{outcome_value}
use Rattle.edi_answers.specs.declared.form.AnswerForm.{AnswerForm}
use Rattle.edi_answers.specs.declared.form.AnswerForm.TheVariants.{Words, Json}

-- the text of an outcome in a form, by the names of the inputs and of the output
abbrev pub text_in_form : AnswerForm → Outcome → List (List ℕ) → List ℕ
text_in_form Words outcome names = ended (words_for outcome names)
text_in_form Json outcome names = json_text (outcome_value outcome names ∷ [])

-- in a text as JSON a reader finds these values
abbrev pub AreReadIn : AnswerForm → List JsonValue → List ℕ → Type 0
AreReadIn Words values text = ⊤
AreReadIn Json values text = ReadsAs text values

-- in a text as JSON a reader finds the value of the outcome
abbrev pub IsReadIn : AnswerForm → Outcome → List (List ℕ) → List ℕ → Type 0
IsReadIn form outcome names text = AreReadIn form (outcome_value outcome names ∷ []) text
