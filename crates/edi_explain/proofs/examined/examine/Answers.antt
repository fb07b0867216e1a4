use Rattle.std.proofs.Common.{List, Result, Ok, Err, IfErr, subst, sym, ℕ}
use Rattle.std.specs.Prelude.{IfOk, OnOk}
use Rattle.edi_schema.specs.Classes.{Classes}
use Rattle.edi_plan.specs.Plans.{PlanData}
use Rattle.edi_compare.specs.PlanOfFile.{IsPlanOfFile}
use Rattle.edi_compare.specs.Refused.{IsRefusal}
use Rattle.edi_compare.specs.Rules.{IsAccepted}
use Rattle.edi_compare.proofs.Refusals.{sheet_fault}
use Rattle.edi_explain.specs.Found.{IsFound}
use Rattle.edi_explain.specs.declared.examined.Found.{Found}
use Rattle.edi_explain.specs.inner.Found.{IsExamined, SpeaksOfNone}
use Rattle.edi_explain.proofs.Phases.{sheet_alone}
use Rattle.edi_explain.proofs.examined.examine.Goals as goal

-- what is examined is accepted and has a plan, or is refused
module _ (s : Classes) (b : List ℕ) where
  accepted : (r : Result PlanData Found) → IsExamined s b r → OnOk r (IsAccepted s b)
  accepted (Ok plan) h = h.0
  accepted (Err found) h = tt

  planned : (r : Result PlanData Found) → IsExamined s b r → IfOk r (IsPlanOfFile s b)
  planned (Ok plan) h = h.1
  planned (Err found) h = tt

  found : (r : Result PlanData Found) → IsExamined s b r → IfErr r (IsFound s b)
  found (Ok plan) h = tt
  found (Err refusal) h = h

pub returns-in-Ok-clause-accepted : goal.returns-in-Ok-clause-accepted
returns-in-Ok-clause-accepted c = accepted c.args.schema.now c.args.bytes.now c.examine_sheet.result c.examine_sheet.ensures

pub returns-in-Ok-clause-plan : goal.returns-in-Ok-clause-plan
returns-in-Ok-clause-plan c = planned c.args.schema.now c.args.bytes.now c.examine_sheet.result c.examine_sheet.ensures

pub returns-in-Ok-clause-found : goal.returns-in-Ok-clause-found
returns-in-Ok-clause-found c = found c.args.schema.now c.args.bytes.now c.examine_sheet.result c.examine_sheet.ensures

pub returns-in-Err-clause-found : goal.returns-in-Err-clause-found
returns-in-Err-clause-found c =
    let s = c.args.schema.now in
    let b = c.args.bytes.now in
    let refusal = c.in-Err.ensures.refusal in
    c.found_alone.ensures s b (subst (IsRefusal s b) (sym c.from.ensures) (sheet_fault s b c.in-Err.fault refusal)) (subst SpeaksOfNone (sym c.from.ensures) (sheet_alone b c.in-Err.fault refusal))
