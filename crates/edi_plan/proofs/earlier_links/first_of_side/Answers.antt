use Rattle.std.proofs.Common.{◌≡◌, ◌∙◌, Some, ap, sym, subst, arith, slice_get}
use Rattle.std.specs.Prelude.{option_map}
use Rattle.std.proofs.lemmas.List.{length-map}
use Rattle.std.proofs.lemmas.Option.{slice_get-map, slice_get_within, same_Some}
use Rattle.edi_record.specs.AnyRecords.{record_lent}
use Rattle.edi_plan.specs.inner.EarlierLinks.{IsOfSide, IsOfSideAt}
use Rattle.edi_plan.specs.inner.RecordLists.{plan_record_of, plan_records_of}
use Rattle.edi_plan.proofs.Leasts.{least_here, none_here}
use Rattle.edi_plan.proofs.earlier_links.first_of_side.Goals as goal

pub returns-then-is_of_side : goal.returns-then-is_of_side
returns-then-is_of_side c =
    let list = plan_records_of c.args.list.now in
    let here : slice_get list c.loop-place.place ≡ Some (plan_record_of (record_lent c.record.result)) = slice_get-map plan_record_of c.args.list.now c.loop-place.place ∙ ap (option_map plan_record_of) c.record.ensures in
    least_here (IsOfSideAt list c.args.role c.args.targets.now) c.loop-place.place c.loop-place.invariant
    (plan_record_of (record_lent c.record.result), here, c.is_of_side.ensures.0 c.if-is_of_side.true)

pub loop-place-preserved : goal.loop-place-preserved
loop-place-preserved c =
    let list = plan_records_of c.args.list.now in
    let here : slice_get list c.loop-place.place ≡ Some (plan_record_of (record_lent c.record.result)) = slice_get-map plan_record_of c.args.list.now c.loop-place.place ∙ ap (option_map plan_record_of) c.record.ensures in
    none_here (IsOfSideAt list c.args.role c.args.targets.now) c.loop-place.place c.loop-place.invariant
    (λ h. let t = c.is_of_side.ensures.1 (subst (IsOfSide c.args.role c.args.targets.now) (same_Some _ _ (sym h.1 ∙ here)) h.2) in let f = c.if-is_of_side.false in cc)

pub returns : goal.returns
returns c = λ k h. c.loop-place.invariant k (omega (arith, slice_get_within _ k h.0 h.1, length-map c.args.list.now plan_record_of)) h
