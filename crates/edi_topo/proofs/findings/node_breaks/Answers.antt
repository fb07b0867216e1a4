use Rattle.std.proofs.Common.{false, get_or, arith}
use Rattle.edi_topo.proofs.BreaksAt.{node_repeats, node_breaks_no_other}
use Rattle.edi_topo.proofs.findings.node_breaks.Goals as goal

pub returns-in-403 : goal.returns-in-403
returns-in-403 c =
    node_repeats c.args.plan.now c.args.place c.requires.node c.args.rule c.in-403.is (get_or c.args.repeated.now c.args.place false) (c.requires.repeated.each c.args.place)

pub returns-in_default : goal.returns-in_default
returns-in_default c = node_breaks_no_other c.args.plan.now c.args.place c.requires.node c.args.rule (λ e. omega (arith, e))
