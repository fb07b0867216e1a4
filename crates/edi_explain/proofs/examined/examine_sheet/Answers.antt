use Rattle.edi_compare.proofs.Phases.{references_held}
use Rattle.edi_explain.proofs.examined.examine_sheet.Goals as goal

pub examine_plan-requires-clause-held : goal.examine_plan-requires-clause-held
examine_plan-requires-clause-held c = references_held c.args.schema.now c.args.bytes.now c.requires.held c.args.sheet c.requires.sheet c.in-Ok.ensures.sound

pub examine_plan-requires-clause-plan : goal.examine_plan-requires-clause-plan
examine_plan-requires-clause-plan c = (c.args.sheet, c.requires.sheet, c.in-Ok.ensures.plan)

pub returns-in-Err : goal.returns-in-Err
returns-in-Err c = c.found_unplanned.ensures c.args.sheet c.requires.sheet c.in-Err.ensures.least c.in-Err.ensures.earlier
