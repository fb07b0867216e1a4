-- Accepted sheets, with where their records stand.
use Rattle.std.specs.Prelude.{ℕ, List}
use Rattle.edi_schema.specs.Classes.{Classes}
use Rattle.edi_plan.specs.Agreeing.{HasClasses}
use Rattle.edi_compare.specs.PlanOfFile.{IsPlanOfFile}
use Rattle.edi_compare.specs.Rules.{IsAccepted}
use Rattle.edi_report.specs.Reports.{HasSites}
use Rattle.edi_report.specs.Sites.{AreSitesOf}
use Rattle.edi_report.specs.declared.sheet.LocatedSheet.{LocatedSheet}

-- the plan of a file, and where its records stand
pub record IsLocated (s : Classes) (b : List ℕ) (sheet : LocatedSheet) : Type 0 where
  pub plan : IsPlanOfFile s b sheet.accepted
  pub sites : AreSitesOf b sheet.sites

-- the sheet of an accepted file, with a site for each record
pub record IsLocatedSheet (s : Classes) (b : List ℕ) (sheet : LocatedSheet) : Type 0 where
  pub accepted : IsAccepted s b
  pub located : IsLocated s b sheet
  pub classes : HasClasses s sheet.accepted
  pub all : HasSites sheet
