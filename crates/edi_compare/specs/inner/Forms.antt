-- What is stored of an accepted sheet to compare it.
use Rattle.std.specs.Prelude.{ℕ, List}
use Rattle.edi_schema.specs.Classes.{Classes}
use Rattle.edi_plan.specs.Plans.{PlanData}
use Rattle.edi_rank.specs.Arranged.{arranged}
use Rattle.edi_rank.specs.Labelling.{Labelling, AreLabels}
use Rattle.edi_compare.specs.Canonical.{IsCanonical}
use Rattle.edi_compare.specs.Headline.{IsFormOf}
use Rattle.edi_compare.specs.Laws.{IsAcceptedPlan}
use Rattle.edi_compare.specs.PlanOfFile.{IsPlanOfFile}
use Rattle.edi_compare.specs.Counterparts.{IsNumbered}
use Rattle.edi_compare.specs.declared.canonical.Form.{Form}
use Rattle.edi_compare.specs.declared.comparing.FirstForm.{FirstForm}

-- The form of an accepted plan: its labels, and its canonical file, which states the plan that the labels make.
pub record IsPlanForm (s : Classes) (p : PlanData) (l : Labelling) (c : List ℕ) : Type 0 where
  pub accepted : IsAcceptedPlan s p
  pub labels : AreLabels s p l
  pub canonical : IsCanonical s c
  pub arranged_plan : IsPlanOfFile s c (arranged s l p)

-- The form of a sheet b: its plan, and the form of that plan, of which the file is that of the sheet.
pub record HasForm (s : Classes) (b : List ℕ) (form : Form) : Type 0 where
  pub file : IsFormOf s b form.file.items
  pub plan : IsPlanOfFile s b form.labelled.sound
  pub plan_form : IsPlanForm s form.labelled.sound form.labelled.labels form.file.items

-- what is stored of the form of a plan while that of another is made: its canonical file, and of its records what pairs
-- them
pub record HasFirst (s : Classes) (p : PlanData) (f : FirstForm) : Type 0 where
  pub labels : Labelling
  pub plan_form : IsPlanForm s p labels f.file.items
  pub records : IsNumbered p labels f.records

-- the same of some plan
abbrev pub IsFirstOfSome : Classes → FirstForm → Type 0
IsFirstOfSome s f = (p : PlanData) × HasFirst s p f
