-- What is known of an accepted plan.
use Rattle.std.specs.Prelude.{ℕ, ◌<◌, ◌^◌, List, length}
use Rattle.edi_schema.specs.Classes.{Classes}
use Rattle.edi_plan.specs.Plans.{PlanData}
use Rattle.edi_compare.specs.PlanOfFile.{IsPlanOfFile}
use Rattle.edi_compare.specs.Rules.{IsAccepted}

-- the plan of some accepted file that memory can hold, and so has fewer than 2 ^ 64 bytes
abbrev pub IsHeldPlan : Classes → PlanData → Type 0
IsHeldPlan s p = (b : List ℕ) × (length b < 2 ^ 64) × IsAccepted s b × IsPlanOfFile s b p
