-- The record at a place.
use Rattle.std.proofs.Common.{◌≡◌, ℕ, List, Some, get_or, slice_get, ap, ◌∙◌}
use Rattle.std.specs.Prelude.{option_map}
use Rattle.std.proofs.lemmas.Option.{get_or_from_slice_get, slice_get-map}
use Rattle.edi_record.specs.AnyRecords.{AnyRecord}
use Rattle.edi_plan.specs.Plans.{blank}
use Rattle.edi_plan.specs.declared.planned.PlanHead.{PlanHead}
use Rattle.edi_plan.specs.declared.record.PlanAttribute.{PlanAttribute}
use Rattle.edi_plan.specs.declared.record.PlanEnd.{PlanEnd}
use Rattle.edi_plan.specs.inner.RecordLists.{plan_record_of, plan_records_of}

pub record_there : (es : List (AnyRecord PlanHead PlanAttribute PlanEnd)) (k : ℕ) (e : AnyRecord PlanHead PlanAttribute PlanEnd)
    → slice_get es k ≡ Some e → get_or (plan_records_of es) k blank ≡ plan_record_of e
record_there es k e here =
    get_or_from_slice_get (plan_records_of es) k (plan_record_of e) blank
    (slice_get-map plan_record_of es k ∙ ap (option_map plan_record_of) here)
