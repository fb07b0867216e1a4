use Rattle.std.proofs.Common.{◌≡◌, ◌++◌, drop, map}
use Rattle.edi_record.specs.declared.record.Kind.{Kind}
use Rattle.edi_plan.specs.Places.{places_from}
use Rattle.edi_plan.specs.inner.Places.{places_listed}
use Rattle.edi_plan.specs.declared.record.PlanRecord.{PlanRecord}
use Rattle.edi_plan.specs.inner.RecordLists.{plan_records_of}
use Rattle.edi_plan.proofs.places.Places.among.Given as goal

abbrev pub invariant-loop-place : goal.invariant-loop-place
invariant-loop-place l = (l.places.kinds.items ++ map (λ (r : PlanRecord). r.kind) (drop l.place (plan_records_of l.list)) ≡ map (λ (r : PlanRecord). r.kind) (plan_records_of l.list))
    × ((kind : Kind) → places_listed l.places kind ++ places_from kind l.place (drop l.place (plan_records_of l.list)) ≡ places_from kind 0 (plan_records_of l.list))
