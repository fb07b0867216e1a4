-- The records of a plan, each as its head and its parts.
use Rattle.std.specs.Prelude.{List, map}
use Rattle.edi_record.specs.AnyRecords.{AnyRecord}
use Rattle.edi_plan.specs.declared.planned.PlanHead.{PlanHead}
use Rattle.edi_plan.specs.declared.record.PlanAttribute.{PlanAttribute}
use Rattle.edi_plan.specs.declared.record.PlanEnd.{PlanEnd}
use Rattle.edi_plan.specs.declared.record.PlanRecord.{PlanRecord}

-- the record with a head and parts
abbrev pub plan_record_of : AnyRecord PlanHead PlanAttribute PlanEnd → PlanRecord
plan_record_of e = record {
  kind = e.head.kind;
  class = e.head.class;
  role = e.head.role;
  points = e.parts.points;
  attributes = e.parts.attributes;
  extras = e.parts.extras;
  ends = e.parts.ends;
}

-- these records in their order
abbrev pub plan_records_of : List (AnyRecord PlanHead PlanAttribute PlanEnd) → List PlanRecord
plan_records_of es = map plan_record_of es
