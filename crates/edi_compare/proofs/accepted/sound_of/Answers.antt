use Rattle.std.proofs.Common.{sym, subst}
use Rattle.edi_line.specs.FileBytes.{file_bytes}
use Rattle.edi_compare.specs.Faults.{of_record}
use Rattle.edi_compare.specs.PlanOfFile.{IsPlanOfFile}
use Rattle.edi_compare.specs.Refused.{IsRefusal}
use Rattle.edi_compare.proofs.Phases.{references_held, topology_held}
use Rattle.edi_compare.proofs.Refusals.{err_kept, reference_fault, topology_fault}
use Rattle.edi_compare.proofs.accepted.sound_of.Goals as goal

pub returns-in_err-sheet-clause-refusal : goal.returns-in_err-sheet-clause-refusal
returns-in_err-sheet-clause-refusal g c =
    err_kept _ c.in_err-sheet.field-0.0 (IsRefusal c.args.schema.now (file_bytes c.args.bytes)) c.from_residual.ensures.1 (c.in_err-sheet.ensures.refusal c.args.schema.now)

pub returns-in_err-plan-clause-refusal : goal.returns-in_err-plan-clause-refusal
returns-in_err-plan-clause-refusal g c =
    let s = c.args.schema.now in let b = (file_bytes c.args.bytes) in let f = c.in_err-plan.field-0.0 in
    err_kept _ (of_record f) (IsRefusal s b) c.from_residual-in_err-plan.ensures.1
    (reference_fault s b (c.in_ok-sheet.ensures.held s) c.in_ok-sheet.sheet c.in_ok-sheet.ensures.sheet f c.in_err-plan.ensures.least)

pub returns-in_err-sound-clause-refusal : goal.returns-in_err-sound-clause-refusal
returns-in_err-sound-clause-refusal g c =
    let s = c.args.schema.now in let b = (file_bytes c.args.bytes) in let f = c.in_err-sound.field-0.0 in
    let sheet = c.in_ok-sheet.sheet in
    err_kept _ (of_record f) (IsRefusal s b) c.from_residual-in_err-sound.ensures.1
    (topology_fault s b (references_held s b (c.in_ok-sheet.ensures.held s) sheet c.in_ok-sheet.ensures.sheet c.in_ok-plan.ensures.sound)
    c.in_ok-plan.plan (sheet, c.in_ok-sheet.ensures.sheet, c.in_ok-plan.ensures.plan) f c.in_err-sound.ensures.least)

pub returns-clause-plan : goal.returns-clause-plan
returns-clause-plan g c = subst (IsPlanOfFile c.args.schema.now (file_bytes c.args.bytes)) (sym c.in_ok-sound.ensures.plan) (c.in_ok-sheet.sheet, c.in_ok-sheet.ensures.sheet, c.in_ok-plan.ensures.plan)

pub returns-clause-held : goal.returns-clause-held
returns-clause-held g c =
    let s = c.args.schema.now in let b = (file_bytes c.args.bytes) in
    let sheet = c.in_ok-sheet.sheet in let plan = c.in_ok-plan.plan in
    let states : IsPlanOfFile s b plan = (sheet, c.in_ok-sheet.ensures.sheet, c.in_ok-plan.ensures.plan) in
    topology_held s b (references_held s b (c.in_ok-sheet.ensures.held s) sheet c.in_ok-sheet.ensures.sheet c.in_ok-plan.ensures.sound) plan states c.in_ok-sound.ensures.sound
