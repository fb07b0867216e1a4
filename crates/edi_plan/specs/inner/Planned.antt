-- A record of a plan, before it is put with the others.
use Rattle.edi_record.specs.declared.record.Record.{Record}
use Rattle.edi_plan.specs.declared.planned.PlannedRecord.{PlannedRecord}
use Rattle.edi_plan.specs.declared.record.PlanRecord.{PlanRecord}

-- the record with the points and the extra zones of this record of the sheet
abbrev pub planned_with : PlannedRecord → Record → PlanRecord
planned_with p r = record {
  kind = p.head.kind;
  class = p.head.class;
  role = p.head.role;
  points = r.points;
  attributes = p.attributes.items;
  extras = r.extras;
  ends = p.ends.items;
}
