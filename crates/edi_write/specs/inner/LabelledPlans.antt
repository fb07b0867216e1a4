-- A plan under its schema, with its labels.
use Rattle.edi_schema.specs.Classes.{Classes}
use Rattle.edi_plan.specs.Agreeing.{Agrees}
use Rattle.edi_plan.specs.Plans.{PlanData}
use Rattle.edi_rank.specs.Labelling.{Labelling, AreLabels}

pub record LabelledPlanData : Type 0 where
  pub classes : Classes
  pub plan : PlanData
  pub labels : Labelling

-- the plan agrees with the schema, and the labels are its own
pub record AreItsLabels (l : LabelledPlanData) : Type 0 where
  pub agrees : Agrees l.classes l.plan
  pub labels : AreLabels l.classes l.plan l.labels
