use Rattle.std.proofs.Common.{false, get_or, arith}
use Rattle.edi_topo.proofs.BreaksAt.{arc_starts, arc_ends, arc_reverses, arc_repeats, arc_breaks_no_other}
use Rattle.edi_topo.proofs.findings.arc_breaks.Goals as goal

pub returns-in-401 : goal.returns-in-401
returns-in-401 c = arc_starts c.args.plan.now c.args.place c.requires.arc c.args.rule c.in-401.is c.starts_elsewhere.result c.starts_elsewhere.ensures

pub returns-in-402 : goal.returns-in-402
returns-in-402 c = arc_ends c.args.plan.now c.args.place c.requires.arc c.args.rule c.in-402.is c.ends_elsewhere.result c.ends_elsewhere.ensures

pub returns-in-404 : goal.returns-in-404
returns-in-404 c =
    arc_reverses c.args.plan.now c.args.place c.requires.place c.requires.arc c.args.rule c.in-404.is c.points.result.now c.points.ensures c.equals_reverse.result c.equals_reverse.ensures

pub returns-in-405 : goal.returns-in-405
returns-in-405 c =
    arc_repeats c.args.plan.now c.args.place c.requires.arc c.args.rule c.in-405.is (get_or c.args.repeated.now c.args.place false) (c.requires.repeated.each c.args.place)

pub returns-in_default : goal.returns-in_default
returns-in_default c = arc_breaks_no_other c.args.plan.now c.args.place c.requires.arc c.args.rule (λ e. omega (arith, e)) (λ e. omega (arith, e)) (λ e. omega (arith, e)) (λ e. omega (arith, e))
