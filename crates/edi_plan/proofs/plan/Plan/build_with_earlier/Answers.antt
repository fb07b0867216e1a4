use Rattle.std.proofs.Common.{◌≡◌, ℕ, List, Option, ap, length, sym, subst, refl, arith}
use Rattle.std.specs.List.{AllZip}
use Rattle.edi_record.specs.Records.{SheetData}
use Rattle.edi_record.specs.Whole.{IsWholeSheet}
use Rattle.edi_record.specs.declared.record.Record.{Record}
use Rattle.edi_plan.specs.inner.Done.{IsDone}
use Rattle.edi_plan.specs.PlanOf.{IsPlanOf, StatesPlanRecord}
use Rattle.edi_plan.specs.ReferenceRules.{BreaksReferenceRule}
use Rattle.edi_line.specs.Refusal.{IsUnbroken}
use Rattle.std.proofs.lemmas.List.{length-map}
use Rattle.edi_plan.specs.inner.RecordLists.{plan_record_of, plan_records_of}
use Rattle.edi_plan.proofs.Built.{plans_agreeing, plans_whole, zip_length}
use Rattle.edi_plan.proofs.JoinedLemmas.{plans_joined}
use Rattle.edi_plan.proofs.PlanLemmas.{all_unbroken, sides_of}
use Rattle.edi_plan.proofs.plan.Plan.build_with_earlier.Goals as goal

-- a sheet is its parts
of_parts : (cse : Option (List ℕ)) (list : List Record) (sheet : SheetData) → cse ≡ sheet.cse → list ≡ sheet.list → sheet ≡ record { cse = cse; list = list }
of_parts cse list sheet set same = λ i. record { cse = (sym set) i; list = (sym same) i }

pub returns-clause-plan : goal.returns-clause-plan
returns-clause-plan c = record {
  set = c.into_parts-cse.ensures.set;
  each = subst (λ (l : List Record). AllZip (StatesPlanRecord c.args.schema.now l) l (plan_records_of c.in_ok-planned.planned.list)) c.into_parts-cse.ensures.list c.in_ok-planned.ensures.each;
}

pub returns-clause-sound : goal.returns-clause-sound
returns-clause-sound c =
    subst (λ (l : List Record). IsUnbroken (BreaksReferenceRule c.args.schema.now l)) c.into_parts-cse.ensures.list
    (all_unbroken c.args.schema.now c.into_parts-cse.result.1 c.in_ok-planned.planned.sides.items c.in_ok-planned.ensures.sides)

pub returns-clause-agrees : goal.returns-clause-agrees
returns-clause-agrees c = plans_agreeing c.args.schema.now c.args.sheet _ (returns-clause-plan c)

pub plan_records-requires-clause-references : goal.plan_records-requires-clause-references
plan_records-requires-clause-references c = c.in_ok-references.ensures

pub invariant_of-result : goal.invariant_of-result
invariant_of-result c =
    let s = c.args.schema.now in
    let sheet : SheetData = record { cse = c.into_parts-cse.result.0; list = c.into_parts-cse.result.1 } in
    let whole = subst IsWholeSheet (of_parts c.into_parts-cse.result.0 c.into_parts-cse.result.1 c.args.sheet c.into_parts-cse.ensures.set c.into_parts-cse.ensures.list) c.into_parts-cse.ensures.whole in
    let plan : IsPlanOf s sheet (record { cse = sheet.cse; list = plan_records_of c.in_ok-planned.planned.list }) = record { set = refl; each = c.in_ok-planned.ensures.each } in
    let done = c.in_ok-planned.ensures.sides in (
      record {
        whole = plans_whole s sheet _ plan whole (all_unbroken s sheet.list c.in_ok-planned.planned.sides.items done);
        joined = plans_joined s sheet _ plan (all_unbroken s sheet.list c.in_ok-planned.planned.sides.items done);
        sides = sides_of s sheet _ plan c.from_vec.result (subst (IsDone s sheet.list (length sheet.list)) (sym c.from_vec.ensures) done);
      },
      c.in_ok-places.ensures,
    )

pub among-requires-2 : goal.among-requires-2
among-requires-2 c =
    let list = c.into_parts-cse.result.1 in
    let long = zip_length (StatesPlanRecord c.args.schema.now list) list (plan_records_of c.in_ok-planned.planned.list) c.in_ok-planned.ensures.each in
    let whole = c.into_parts-cse.ensures.whole in
    omega (arith, long, ap length c.into_parts-cse.ensures.list, whole.few, length-map c.in_ok-planned.planned.list plan_record_of)
