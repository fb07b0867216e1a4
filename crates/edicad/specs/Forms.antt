-- In which form the words ask for answers, and for what differs.
use Rattle.std.specs.Prelude.{ℕ, Bool, true, false, List, Option, Some, None}
use Rattle.std.proofs.Common.{Bor}
use Rattle.edi_answers.specs.declared.form.AnswerForm.{AnswerForm}
use Rattle.edi_answers.specs.declared.form.AnswerForm.TheVariants as answer_form
use Rattle.edi_diff.specs.declared.form.TextForm.{TextForm}
use Rattle.edi_diff.specs.declared.form.TextForm.TheVariants.{Objects, ObjectsNamedBy, Records, Brief, Json}

-- as a line of JSON, if `--json` is given, and else as words
abbrev pub answer_form_asked : Bool → AnswerForm
answer_form_asked true = answer_form.Json
answer_form_asked false = answer_form.Words

-- how many records differ, if `--brief` is given; else as lines of JSON, if `--json` is; else record by record, if
-- `--records` is; else object by object, by the attributes of the classes that `--name-by` gives, or, if it isn't
-- given, by those that people know
abbrev pub form_asked : Bool → Bool → Bool → Option (Bor (List ℕ)) → TextForm
form_asked true records json named_by = Brief
form_asked false records true named_by = Json
form_asked false true false named_by = Records
form_asked false false false (Some identifiers) = ObjectsNamedBy identifiers
form_asked false false false None = Objects
