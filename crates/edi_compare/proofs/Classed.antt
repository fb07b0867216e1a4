-- Where a plan agrees with a schema, its records have classes of the schema.
use Rattle.std.proofs.Common.{◌<◌, List, [], ◌∷◌, length}
use Rattle.std.specs.List.{AllByRecursion}
use Rattle.edi_schema.specs.Classes.{Classes}
use Rattle.edi_plan.specs.Agreeing.{RecordAgrees}
use Rattle.edi_plan.specs.declared.record.PlanRecord.{PlanRecord}

pub classed : (s : Classes) (list : List PlanRecord) → AllByRecursion (RecordAgrees s) list → AllByRecursion (λ r. r.class < length s) list
classed s [] agrees = tt
classed s (r ∷ list) agrees = (agrees.0.known, classed s list agrees.1)
