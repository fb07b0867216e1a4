use Rattle.edi_topo.proofs.AtPlaces.{breaks_of_face}
use Rattle.edi_topo.proofs.at_record.rule_of_face.Goals as goal

pub returns-then-faced-place : goal.returns-then-faced-place
returns-then-faced-place c rule h =
    let d = breaks_of_face c.args.plan.now c.args.place c.requires.face rule h in
    let on = (c.requires.faced.each c.args.place).0 c.if-faced-place.true in
    d.1 on.0 on.2
