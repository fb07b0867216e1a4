-- Accepted sheets, with where their records stand, packed.
use Rattle.std.specs.Prelude.{ℕ, List}
use Rattle.edi_record.specs.Observers.{SawAll}
use Rattle.edi_schema.specs.Classes.{Classes}
use Rattle.edi_plan.specs.Agreeing.{HasClasses}
use Rattle.edi_compare.specs.PlanOfFile.{IsPlanOfFile}
use Rattle.edi_compare.specs.Rules.{IsAccepted}
use Rattle.edi_report.specs.Located.{IsLocatedSheet}
use Rattle.edi_report.specs.declared.sheet.LocatedSheet.{LocatedSheet}
use Rattle.edi_report.specs.declared.sheet.PackedSheet.{PackedSheet}
use Rattle.edi_report.specs.inner.PackedSites.{PacksSitesOf}

-- the sheet of an accepted file, with its sites packed
pub record IsPackedSheet (s : Classes) (b : List ℕ) (sheet : PackedSheet) : Type 0 where
  pub accepted : IsAccepted s b
  pub plan : IsPlanOfFile s b sheet.accepted
  pub classes : HasClasses s sheet.accepted
  pub sites : SawAll b (PacksSitesOf sheet.sites)

-- of whatever file the one is the sheet with its sites packed, the other is the sheet of that file
abbrev pub IsUnpacked : PackedSheet → LocatedSheet → Type 0
IsUnpacked packed sheet = (s : Classes) (b : List ℕ) → IsPackedSheet s b packed → IsLocatedSheet s b sheet
