use Rattle.std.proofs.Common.{subst, sym}
use Rattle.edi_compare.specs.PlanOfFile.{IsPlanOfFile}
use Rattle.edi_compare.proofs.Phases.{topology_held}
use Rattle.edi_explain.proofs.examined.examine_plan.Goals as goal

pub examine_objects-requires-clause-held : goal.examine_objects-requires-clause-held
examine_objects-requires-clause-held c = topology_held c.args.schema.now c.args.bytes.now c.requires.held c.args.plan c.requires.plan c.in-Ok.ensures.sound

pub examine_objects-requires-clause-plan : goal.examine_objects-requires-clause-plan
examine_objects-requires-clause-plan c = subst (IsPlanOfFile c.args.schema.now c.args.bytes.now) (sym c.in-Ok.ensures.plan) c.requires.plan

pub found_in_plan-requires-clause-plan : goal.found_in_plan-requires-clause-plan
found_in_plan-requires-clause-plan c = subst (IsPlanOfFile c.args.schema.now c.args.bytes.now) (sym c.in-Err.ensures.returned) c.requires.plan
