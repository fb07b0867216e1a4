-- What is answered of what differs between two sheets.
use Rattle.std.specs.Prelude.{◌≡◌, ◌==◌, ◌⊎◌, ℕ, List, Option, Some, None, if◌then◌else◌}
use Rattle.edi_schema.specs.Classes.{Classes}
use Rattle.edi_compare.specs.Rules.{IsAccepted}
use Rattle.edi_diff.specs.Differences.{IsDifference}
use Rattle.edi_diff.specs.declared.differing.Difference.{Difference}
use Rattle.edicad_c.specs.declared.answer.Answer.{Answer}
use Rattle.edicad_c.specs.declared.content.Content.{Content}
use Rattle.edicad_c.specs.Answers.{difference_answer}
use Rattle.edicad_c.specs.Held.{IsGiven, IsWrongCall}
use Rattle.edicad_c.specs.Comparisons.{RefusesPair}
use Rattle.edi_diff.specs.declared.form.TextForm.{TextForm}
use Rattle.edi_diff.specs.declared.form.TextForm.TheVariants.{Brief, Json, Objects, Records}

-- the form with this number: record by record, how many records differ, object by object, or lines of JSON
abbrev pub form_numbered : ℕ → Option TextForm
form_numbered n =
    if n == 0 then Some Records
    else (if n == 1 then Some Brief else (if n == 2 then Some Objects else (if n == 3 then Some Json else None)))

-- Both sheets are accepted, the answer is whether they state the same plan, and the handle holds the text of what
-- differs in this form; or the answer is the refusal, and the handle is empty.
abbrev pub IsDifferenceGiven : Classes → List ℕ → List ℕ → TextForm → Option Content → Answer → Type 0
IsDifferenceGiven s a b form held answer =
    ((found : Difference) × IsAccepted s a × IsAccepted s b × IsDifference s a b form found
    × IsGiven (difference_answer found.same) found.text.items held answer)
    ⊎ ((held ≡ None) × RefusesPair s a b answer)

-- the same; or where no form has the number, the call was wrong
abbrev pub IsDifferenceAnswered : Classes → List ℕ → List ℕ → Option TextForm → Option Content → Answer → Type 0
IsDifferenceAnswered s a b None held answer = IsWrongCall held answer
IsDifferenceAnswered s a b (Some form) held answer = IsDifferenceGiven s a b form held answer
