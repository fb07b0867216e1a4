use Rattle.edi_diff.proofs.Steps.{no_steps}
use Rattle.edi_diff.proofs.changes.changes_between.Goals as goal

pub loop-way-init : goal.loop-way-init
loop-way-init c =
    no_steps c.requires.0 c.args.plan.now c.args.other.now c.args.unchanged.now c.in_ok-changes.changes.to.items c.in_ok-changes.changes.turned.items c.in_ok-changes.changes.reached.items
    c.requires.1 c.in_ok-changes.ensures.to c.in_ok-changes.ensures.turned c.in_ok-changes.ensures.reached

pub loop-way-preserved : goal.loop-way-preserved
loop-way-preserved c = c.grow.ensures c.args.unchanged.now c.loop-way.invariant
