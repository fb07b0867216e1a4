-- Attributes whose classes a schema has.
use Rattle.std.specs.Prelude.{◌<◌, List, length}
use Rattle.std.specs.List.{AllByRecursion}
use Rattle.edi_schema.specs.Classes.{Classes}
use Rattle.edi_plan.specs.declared.record.PlanAttribute.{PlanAttribute}

abbrev pub AreOfSchema : Classes → List PlanAttribute → Type 0
AreOfSchema s attributes = AllByRecursion (λ a. a.atp < length s) attributes
