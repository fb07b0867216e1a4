-- In which form it is written what explains.
use Rattle.std.specs.Prelude.{◌≡◌, ℕ, List, ◌∷◌, ◌++◌}
use Rattle.edi_outcome.specs.declared.outcome.Outcome.{Outcome}
use Rattle.edi_json.specs.Texts.{json_text}
use Rattle.edi_json_answers.specs.Answers.{outcome_value}
use Rattle.edi_json_answers.specs.Told.{told_values}
use Rattle.edi_answers.specs.declared.form.AnswerForm.{AnswerForm}
use Rattle.edi_answers.specs.declared.form.AnswerForm.TheVariants.{Words, Json}
use Rattle.edi_answers.specs.AnswerForms.{AreReadIn, text_in_form}
use Rattle.edi_answers.specs.Effects.{Stream}
use Rattle.edi_answers.specs.Statuses.{Answers}

-- words in a form: as they are, or a line of JSON for each of their lines
abbrev pub words_in_form : AnswerForm → List ℕ → List ℕ
words_in_form Words words = words
words_in_form Json words = json_text (told_values words)

-- in a text as JSON a reader finds the value of each line of the words
abbrev pub AreWordsReadIn : AnswerForm → List ℕ → List ℕ → Type 0
AreWordsReadIn form words text = AreReadIn form (told_values words) text

-- standard output got words in a form, in which, as JSON, a reader finds the value of each line, and standard error
-- nothing
abbrev pub AnswersLinesIn : Stream → Stream → AnswerForm → List ℕ → Type 0
AnswersLinesIn out err form words =
    Answers out err (words_in_form form words) × AreWordsReadIn form words (words_in_form form words)

-- in a text as JSON a reader finds the value of the outcome, and then that of each line of the words
abbrev pub IsExplainedIn : AnswerForm → Outcome → List (List ℕ) → List ℕ → List ℕ → Type 0
IsExplainedIn form outcome names words text = AreReadIn form (outcome_value outcome names ∷ told_values words) text

-- The text of an outcome in a form, by the names of the inputs and of the output, and behind it the words that explain
-- it in that form.
pub record TellsIn (form : AnswerForm) (outcome : Outcome) (names : List (List ℕ)) (words text : List ℕ) : Type 0 where
  pub all : text ≡ text_in_form form outcome names ++ words_in_form form words
  pub read : IsExplainedIn form outcome names words text
