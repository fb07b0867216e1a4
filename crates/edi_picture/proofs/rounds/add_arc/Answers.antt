use Rattle.edi_picture.proofs.ArcsRound.{more_none, more_two, one_option, two_options}
use Rattle.edi_picture.proofs.rounds.add_arc.Goals as goal

pub returns-then-eq : goal.returns-then-eq
returns-then-eq c = λ arcs h.
    more_none c.args.plan.now c.keeps.ensures.joined c.args.arc c.side-left.result c.side-right.result c.requires c.side-left.ensures c.side-right.ensures
    (one_option c.side-left.result c.side-right.result c.if-eq.ensures) c.args.lists.now.items arcs h

pub returns : goal.returns
returns c = λ arcs h.
    more_two c.args.plan.now c.keeps.ensures.joined c.args.arc c.side-left.result c.side-right.result c.requires c.side-left.ensures c.side-right.ensures
    (two_options c.side-left.result c.side-right.result c.if-eq.ensures)
    c.args.lists.now.items c.add_to.new.lists.items c.add_to-2.new.lists.items c.in_ok-add_to.ensures.length c.in_ok-add_to-2.ensures.length
    c.in_ok-add_to.ensures.each c.in_ok-add_to-2.ensures.each arcs h
