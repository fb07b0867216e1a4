use Rattle.edi_topo.proofs.Marked.{faced_by_arc}
use Rattle.edi_topo.proofs.faces.mark_sides.Goals as goal

pub returns-in-Par : goal.returns-in-Par
returns-in-Par c = faced_by_arc c.args.plan.now c.args.place c.args.faced.now.items c.mark.new.faced.items c.mark-in-Par.new.faced.items c.mark-in-Par.ensures.long c.requires.before c.mark.ensures.marked c.mark-in-Par.ensures.marked
