use Rattle.std.proofs.Common.{subst}
use Rattle.edi_record.specs.RecordRefusal.{IsRecordRefusal}
use Rattle.edi_record.specs.declared.fault.RecordFault.{RecordFault}
use Rattle.edi_record.specs.declared.fault.RecordFault.TheVariants.{Broken}
use Rattle.edi_plan.specs.EarlierLinks.{IsEarlierLinkIfAny}
use Rattle.edi_plan.specs.ReferenceRules.{BreaksReferenceRule}
use Rattle.edi_compare.proofs.Refusals.{reference_fault}
use Rattle.edi_explain.proofs.Phases.{reference_below}
use Rattle.edi_explain.proofs.examined.found_unplanned.Goals as goal

pub returns-in-Memory : goal.returns-in-Memory
returns-in-Memory c = λ sheet states least link. c.found_alone.ensures c.args.schema.now c.args.bytes.now tt tt

pub returns-in-Broken : goal.returns-in-Broken
returns-in-Broken c = λ sheet states least link.
    let s = c.args.schema.now in
    let b = c.args.bytes.now in
    let rule = c.in-Broken.rule in
    let at = c.in-Broken.at in
    let broken = subst (IsRecordRefusal (BreaksReferenceRule s sheet.list)) c.in-Broken.is least in
    let earlier = subst (λ (f : RecordFault). IsEarlierLinkIfAny s sheet.list f c.args.unplanned.earlier) c.in-Broken.is link in
    c.found_early.ensures s sheet (reference_below s sheet.list rule at broken.is) states (reference_fault s b c.requires sheet states (Broken rule at) broken) earlier
