use Rattle.std.proofs.Common.{◌≡◌, ◌≤◌, ℕ, length, take, drop, Some}
use Rattle.std.specs.List.{AllZip}
use Rattle.edi_plan.specs.inner.Done.{IsDone}
use Rattle.edi_plan.specs.PlanOf.{StatesPlanRecord}
use Rattle.edi_plan.specs.inner.Targets.{AreTargets}
use Rattle.edi_plan.specs.inner.RecordLists.{plan_records_of}
use Rattle.edi_plan.proofs.records.plan_records.Given as goal

abbrev pub invariant-loop-record : goal.invariant-loop-record
invariant-loop-record l = record {
  same : l.classes ≡ l.schema;
  finders : l.attribute_classes ≡ l.schema;
  there : l.place ≤ length l.fn.records;
  rest : l.remaking.left ≡ drop l.place l.fn.records;
  zipped : AllZip (StatesPlanRecord l.schema l.fn.records) (take l.place l.fn.records) (plan_records_of l.remaking.made);
  ahead : (k : ℕ) → l.references.repeat ≡ Some k → l.place ≤ k;
  left : AreTargets l.fn.records (drop l.place l.fn.records) l.targets;
  done : IsDone l.schema l.fn.records l.place l.sides.items;
}

abbrev pub decreases-loop-record : goal.decreases-loop-record
decreases-loop-record l = length l.remaking.left
