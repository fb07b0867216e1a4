-- What is said of a sheet, of a rule and of all rules.
use Rattle.std.specs.Prelude.{◌≡◌, ◌⊎◌, ◌++◌, ℕ, List, [], codes}
use Rattle.edi_schema.specs.Classes.{Classes}
use Rattle.edi_schema.specs.Roles.{KindCodes}
use Rattle.edi_schema.specs.SchemaRefusal.{IsGoodSchema}
use Rattle.edi_schema.specs.declared.fault.SchemaFault.{SchemaFault}
use Rattle.edi_plan.specs.Plans.{PlanData}
use Rattle.edi_compare.specs.PlanOfFile.{IsPlanOfFile}
use Rattle.edi_compare.specs.Refused.{IsProper, IsRefusal}
use Rattle.edi_compare.specs.Rules.{IsAccepted}
use Rattle.edi_compare.specs.Runs.{RefusesSchema}
use Rattle.edi_compare.specs.declared.fault.Fault.{Fault}
use Rattle.edi_compare.specs.declared.fault.RunFault.{RunFault}
use Rattle.edi_compare.specs.declared.fault.RunFault.TheVariants.{Schema, First}
use Rattle.edi_explain.specs.ClassCounts.{DescribesSheet}
use Rattle.edi_explain.specs.Explained.{ExplainsSchema, ExplainsSheet, IsRuleWord, IsTextOfWord, rule_lines, rule_page}
use Rattle.edi_explain.specs.Hints.{AreHintsOfSheet}
use Rattle.edi_explain.specs.KindLines.{DescribesKinds}
use Rattle.edi_explain.specs.Skipped.{DescribesSkipped}
use Rattle.edi_explain.specs.declared.text.RuleText.{RuleText}
use Rattle.edi_words.specs.declared.words.SheetFiles.{SheetFiles}
use Rattle.edi_files.specs.Reasons.{ended}
use Rattle.edi_outcome.specs.declared.outcome.Outcome.{Outcome}
use Rattle.edi_outcome.specs.declared.outcome.Outcome.TheVariants as outcome
use Rattle.edi_answers.specs.declared.form.AnswerForm.{AnswerForm}
use Rattle.edi_answers.specs.Paths.{input_name, names_of_paths}
use Rattle.edi_answers.specs.Effects.{Effects, Stream}
use Rattle.edi_answers.specs.ExplainForms.{AnswersLinesIn, TellsIn}
use Rattle.edi_answers.specs.SheetRuns.{FileFault, OfFiles}
use Rattle.edi_answers.specs.Statuses.{Answers, AreTried, Complains, IsUnsaid, MeansStatus, OnlyLacksMemory, Prints, paths_of}

-- the lines on the plan of an accepted sheet, and on the classes of its records
abbrev pub TellsPlan : KindCodes → List ℕ → List ℕ → List ℕ → List ℕ → Type 0
TellsPlan kinds scd dic b lines = (s : Classes) × (p : PlanData) × IsGoodSchema scd dic kinds s × IsAccepted s b
    × IsPlanOfFile s b p × DescribesSheet s p lines

-- the lines on the classes of the four kinds, and those on what is read and not compared
abbrev pub DescribesRest : KindCodes → SheetFiles → List ℕ → List ℕ → List ℕ → Type 0
DescribesRest kinds files scd b lines =
    (classes skipped : List ℕ) × DescribesKinds kinds scd (input_name files.scd.now) classes
    × DescribesSkipped b skipped
    × (lines ≡ classes ++ skipped)

-- in a form the answer of a check of these files, and behind it the lines that explain it
abbrev pub TellsAnswer : AnswerForm → SheetFiles → Outcome → List ℕ → List ℕ → Type 0
TellsAnswer form files outcome lines text =
    TellsIn form outcome (names_of_paths (paths_of files (codes "-"))) lines text

-- an accepted sheet in a form: that it is accepted, and then those lines
abbrev pub TellsAccepted : AnswerForm → KindCodes → SheetFiles → List ℕ → List ℕ → List ℕ → List ℕ → Type 0
TellsAccepted form kinds files scd dic b text = (plan rest : List ℕ) × TellsPlan kinds scd dic b plan
    × DescribesRest kinds files scd b rest × TellsAnswer form files outcome.Accepted (plan ++ rest) text

-- a schema is refused with this fault, and the lines explain the refusal
abbrev pub TellsSchema : KindCodes → SheetFiles → List ℕ → List ℕ → RunFault → List ℕ → Type 0
TellsSchema kinds files scd dic fault lines = (f : SchemaFault) × (fault ≡ Schema f) × RefusesSchema kinds scd dic f
    × ExplainsSchema kinds scd dic (input_name files.scd.now) (input_name files.dic.now) f lines

-- the same of a sheet
abbrev pub TellsSheet : KindCodes → SheetFiles → List ℕ → List ℕ → List ℕ → RunFault → List ℕ → Type 0
TellsSheet kinds files scd dic b fault lines = (f : Fault) × (s : Classes) × (fault ≡ First f)
    × IsGoodSchema scd dic kinds s × IsProper f × IsRefusal s b f
    × ExplainsSheet s b (input_name files.vec.now) f lines

-- either of them
abbrev pub TellsCause : KindCodes → SheetFiles → List ℕ → List ℕ → List ℕ → RunFault → List ℕ → Type 0
TellsCause kinds files scd dic b fault lines =
    TellsSchema kinds files scd dic fault lines ⊎ TellsSheet kinds files scd dic b fault lines

-- the hints that the three files give, by their names
abbrev pub GiveHints : SheetFiles → List ℕ → List ℕ → List ℕ → List ℕ → Type 0
GiveHints files scd dic b hints =
    AreHintsOfSheet (input_name files.scd.now) scd (input_name files.dic.now) dic (input_name files.vec.now) b hints

-- in a form a refusal, the lines that explain it, and then the hints
abbrev pub TellsRefusal : AnswerForm → KindCodes → SheetFiles → List ℕ → List ℕ → List ℕ → List ℕ → Type 0
TellsRefusal form kinds files scd dic b text = (fault : RunFault) × (cause hints : List ℕ)
    × TellsCause kinds files scd dic b fault cause × GiveHints files scd dic b hints
    × TellsAnswer form files (outcome.Fault fault) (cause ++ hints) text

-- The status of a run that explains a sheet, as that of a check; the output gets the check's answer and what explains
-- it, in a form.
pub record IsExplainStatus (run : Effects) (out err : Stream) (kinds : KindCodes) (files : SheetFiles)
    (form : AnswerForm) (s : ℕ) : Type 0 where
  pub tried : AreTried run.inputs files
  pub means : MeansStatus (OfFiles run.inputs files (λ scd dic b. (text : List ℕ)
      × TellsAccepted form kinds files scd dic b text × Answers out err text))
      (OfFiles run.inputs files (λ scd dic b. (text : List ℕ) × TellsRefusal form kinds files scd dic b text
      × Answers out err text))
      (λ e. FileFault run.inputs kinds files (λ _. ⊥) e × Prints out []) run.why (paths_of files (codes "-")) out err s

-- The status of a run that lists the rules in a form: 0 only where the lines on all went out.
pub record IsRuleListStatus (out err : Stream) (form : AnswerForm) (s : ℕ) : Type 0 where
  pub done : s ≡ 0 → AnswersLinesIn out err form rule_lines
  pub failed : s ≡ 4 → IsUnsaid out err
  pub memory : s ≡ 5 → OnlyLacksMemory out err

-- The status of a run that explains a rule in a form: 0 only where its page went out, 3 only where the word is no
-- rule's number.
pub record IsRuleStatus (out err : Stream) (form : AnswerForm) (word : List ℕ) (s : ℕ) : Type 0 where
  pub done : s ≡ 0 → (text : RuleText) × IsTextOfWord word text × AnswersLinesIn out err form (rule_page text)
  pub unknown : s ≡ 3
      → ((rule : ℕ) → ¬ IsRuleWord word rule) × Complains out err (ended (codes "no rule has this number"))
  pub failed : s ≡ 4 → IsUnsaid out err
  pub memory : s ≡ 5 → OnlyLacksMemory out err
