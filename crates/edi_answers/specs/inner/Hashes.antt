-- What the answer to one sheet leaves.
use Rattle.std.specs.Prelude.{◌≡◌, ◌≢◌, ℕ, List, [], IsTrue, take}
use Rattle.std.proofs.Common.{Result}
use Rattle.edi_schema.specs.Classes.{Classes}
use Rattle.edi_compare.specs.declared.fault.RunFault.{RunFault}
use Rattle.edi_files.specs.Reasons.{Why}
use Rattle.edi_answers.specs.Hashes.{IsAnswerOf, IsAnswerRead, IsFaultSaid, IsSchemaRead, IsStep, Step, answer_text, schema_line_in}
use Rattle.edi_answers.specs.declared.form.AnswerForm.{AnswerForm}
use Rattle.edi_answers.specs.Effects.{Inputs, Stream}
use Rattle.edi_answers.specs.Statuses.{Prints, Warns}

-- the streams got what a sheet adds, and this is its status
abbrev pub StepsOn : Inputs → Why → Classes → List (List ℕ) → AnswerForm → List ℕ → Stream → Stream → ℕ → Type 0
StepsOn inputs why s siblings form path out err status =
    (step : Step) × IsStep inputs why s siblings form path step × (step.status ≡ status) × Prints out step.out
    × Warns err step.err

-- the output failed in the text of the sheet of a path, of which so many bytes went out
abbrev pub OutputStopsAt : Inputs → Classes → AnswerForm → List ℕ → Stream → Type 0
OutputStopsAt inputs s form path out =
    (answer : Result (List ℕ) RunFault) × IsAnswerOf inputs s path answer × (answer_text form path answer ≢ [])
    × IsTrue out.failed × ((count : ℕ) × Prints out (take count (answer_text form path answer)))

-- the errors were told of a fault of the sheet of a path, and this is the status
abbrev pub TellsSheetFault : Inputs → Why → List (List ℕ) → Stream → RunFault → List ℕ → ℕ → Type 0
TellsSheetFault inputs why siblings err e path status =
    (said : List ℕ) × IsFaultSaid inputs why siblings path e said status × Warns err said

-- this text is what the output gets of what came of the sheet of a path, and a reader of JSON finds its values there
abbrev pub IsAnswerText : AnswerForm → List ℕ → Result (List ℕ) RunFault → List ℕ → Type 0
IsAnswerText form path answer text = (text ≡ answer_text form path answer) × IsAnswerRead form path answer

-- this text is the line of a schema, and a reader of JSON finds its value there
abbrev pub IsSchemaText : AnswerForm → Classes → List ℕ → List ℕ → Type 0
IsSchemaText form s name text = (text ≡ schema_line_in form s name) × IsSchemaRead form s name
