use Rattle.edi_compare.proofs.Phases.{all_held}
use Rattle.edi_explain.proofs.examined.examine_objects.Goals as goal

pub returns-in-Ok : goal.returns-in-Ok
returns-in-Ok c = (all_held c.args.schema.now c.args.bytes.now c.requires.held c.args.sound c.requires.plan c.in-Ok.ensures.distinct, c.requires.plan)

pub returns : goal.returns
returns c = c.found_unranked.ensures c.args.schema.now c.args.bytes.now c.args.sound c.requires.held c.requires.plan c.in-Err.ensures.least c.in-Err.ensures.earlier
