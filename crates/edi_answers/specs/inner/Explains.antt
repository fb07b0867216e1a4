-- What is said of a sheet, before it is put together.
use Rattle.std.specs.Prelude.{◌≡◌, ℕ, Bool, List, [], ◌∷◌}
use Rattle.std.specs.Bool.{MatchBool}
use Rattle.edi_schema.specs.Roles.{KindCodes}
use Rattle.edi_compare.specs.declared.fault.RunFault.{RunFault}
use Rattle.edi_outcome.specs.declared.outcome.Outcome.{Outcome}
use Rattle.edi_outcome.specs.declared.outcome.Outcome.TheVariants as outcome
use Rattle.edi_words.specs.declared.words.SheetFiles.{SheetFiles}
use Rattle.edi_answers.specs.declared.form.AnswerForm.{AnswerForm}
use Rattle.edi_answers.specs.AnswerForms.{IsReadIn, text_in_form}
use Rattle.edi_answers.specs.Explains.{TellsCause, TellsPlan}

-- the text of an outcome in a form, in which, as JSON, a reader finds its value
abbrev pub IsTextIn : AnswerForm → Outcome → List (List ℕ) → List ℕ → Type 0
IsTextIn form outcome names text = (text ≡ text_in_form form outcome names) × IsReadIn form outcome names text

-- the same of a run over one sheet, whatever the names of its inputs and of its output are
abbrev pub IsSheetTextIn : AnswerForm → Outcome → List ℕ → Type 0
IsSheetTextIn form outcome text = (scd dic vec out : List ℕ) → IsTextIn form outcome (scd ∷ dic ∷ vec ∷ out ∷ []) text

-- the answer on a sheet in a form, and the words that tell the plan of an accepted one or the cause of a refusal
abbrev pub AnswersAndTells : AnswerForm → KindCodes → SheetFiles → List ℕ → List ℕ → List ℕ → Bool → List ℕ → List ℕ
    → Type 0
AnswersAndTells form kinds files scd dic b is_accepted answer words = MatchBool is_accepted
    (IsSheetTextIn form outcome.Accepted answer × TellsPlan kinds scd dic b words)
    ((fault : RunFault) × IsSheetTextIn form (outcome.Fault fault) answer
    × TellsCause kinds files scd dic b fault words)
