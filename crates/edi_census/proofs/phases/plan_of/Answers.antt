use Rattle.std.proofs.Common.{subst}
use Rattle.edi_record.specs.RecordRefusal.{IsRecordRefusal}
use Rattle.edi_plan.specs.ReferenceRules.{BreaksReferenceRule}
use Rattle.edi_census.proofs.phases.plan_of.Goals as goal

pub unreachable-requires : goal.unreachable-requires
unreachable-requires c =
    let sheet = c.args.sheet in
    let least = subst (IsRecordRefusal (BreaksReferenceRule c.args.schema.now sheet.list)) c.in-Err-Broken.field-0-is c.in-Err-Broken.ensures.least in
    c.requires.held.1 sheet c.requires.sheet _ _ least.is
