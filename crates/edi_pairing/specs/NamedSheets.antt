-- Accepted sheets, with the names of their records.
use Rattle.std.specs.Prelude.{ℕ, List}
use Rattle.edi_schema.specs.Classes.{Classes}
use Rattle.edi_plan.specs.Agreeing.{HasClasses}
use Rattle.edi_compare.specs.HeldPlans.{IsHeldPlan}
use Rattle.edi_compare.specs.PlanOfFile.{IsPlanOfFile}
use Rattle.edi_compare.specs.Rules.{IsAccepted}
use Rattle.edi_pairing.specs.Names.{AreNamesOf}
use Rattle.edi_pairing.specs.declared.sheets.NamedSheet.{NamedSheet}

-- the file is accepted, and these are its plan and the names of its records
pub record IsNamedSheet (s : Classes) (b : List ℕ) (sheet : NamedSheet) : Type 0 where
  pub accepted : IsAccepted s b
  pub plan : IsPlanOfFile s b sheet.accepted
  pub held : IsHeldPlan s sheet.accepted
  pub classes : HasClasses s sheet.accepted
  pub names : AreNamesOf b sheet.names
