-- Which links call records something, while they are sought.
use Rattle.std.specs.Prelude.{◌≡◌, ◌<◌, ℕ, List, Option, None, find, length, slice_index_or}
use Rattle.edi_record.specs.declared.record.Kind.TheVariants.{Lnk}
use Rattle.edi_schema.specs.Classes.{Classes}
use Rattle.edi_plan.specs.Places.{places_of}
use Rattle.edi_plan.specs.Plans.{PlanData}
use Rattle.edi_drawing.specs.Labels.{calls}

-- for each record the first of these links that calls it something
pub record HaveCallers (s : Classes) (p : PlanData) (links : List ℕ) (callers : List (Option ℕ)) : Type 0 where
  pub long : length callers ≡ length p.list
  pub each : (k : ℕ) → k < length callers → slice_index_or callers k None ≡ find (calls s p k) links

-- the same of all links
abbrev pub AreCallers : Classes → PlanData → List (Option ℕ) → Type 0
AreCallers s p callers = HaveCallers s p (places_of Lnk p) callers
