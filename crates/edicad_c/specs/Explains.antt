-- What is said of a sheet.
use Rattle.std.specs.Prelude.{◌≡◌, ◌⊎◌, ℕ, List, Option, None}
use Rattle.edi_schema.specs.Classes.{Classes}
use Rattle.edi_plan.specs.Plans.{PlanData}
use Rattle.edi_compare.specs.PlanOfFile.{IsPlanOfFile}
use Rattle.edi_compare.specs.Refused.{IsRefusal}
use Rattle.edi_compare.specs.Rules.{IsAccepted}
use Rattle.edi_compare.specs.declared.fault.Fault.{Fault}
use Rattle.edi_explain.specs.Explained.{DescribesPlan, ExplainsSheet}
use Rattle.edicad_c.specs.declared.answer.Answer.{Answer}
use Rattle.edicad_c.specs.declared.content.Content.{Content}
use Rattle.edicad_c.specs.Answers.{done, no_memory, sheet_answer}
use Rattle.edicad_c.specs.Held.{IsGiven}

-- memory ran out, and the handle is empty
abbrev pub LacksRoom : Option Content → Answer → Type 0
LacksRoom held answer = (held ≡ None) × (answer ≡ no_memory)

-- the text on a plan
abbrev pub IsDescribed : PlanData → Option Content → Answer → Type 0
IsDescribed p held answer =
    ((text : List ℕ) × DescribesPlan p text × IsGiven done text held answer)
    ⊎ LacksRoom held answer

-- the text that explains a fault of a sheet, by the name of its file
abbrev pub IsExplained : Classes → List ℕ → List ℕ → Fault → Option Content → Answer → Type 0
IsExplained s sheet name f held answer =
    ((text : List ℕ) × ExplainsSheet s sheet name f text × IsGiven (sheet_answer 3 f) text held answer)
    ⊎ LacksRoom held answer

-- The sheet is accepted, and the handle holds the text on its plan; or the answer is its refusal, and the handle holds
-- the text that explains it.
abbrev pub IsExplanation : Classes → List ℕ → List ℕ → Option Content → Answer → Type 0
IsExplanation s sheet name held answer =
    ((p : PlanData) × IsAccepted s sheet × IsPlanOfFile s sheet p × IsDescribed p held answer)
    ⊎ ((f : Fault) × IsRefusal s sheet f × IsExplained s sheet name f held answer)
