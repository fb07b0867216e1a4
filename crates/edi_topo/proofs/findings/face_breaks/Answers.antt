use Rattle.std.proofs.Common.{false, get_or, arith}
use Rattle.edi_topo.proofs.BreaksAt.{face_bounds_nothing, face_breaks_no_other}
use Rattle.edi_topo.proofs.findings.face_breaks.Goals as goal

pub returns-in-406 : goal.returns-in-406
returns-in-406 c =
    face_bounds_nothing c.args.plan.now c.args.place c.requires.place c.requires.face c.args.rule c.in-406.is (get_or c.args.faced.now c.args.place false) (c.requires.faced.each c.args.place)

pub returns-in_default : goal.returns-in_default
returns-in_default c = face_breaks_no_other c.args.plan.now c.args.place c.requires.face c.args.rule (λ e. omega (arith, e))
