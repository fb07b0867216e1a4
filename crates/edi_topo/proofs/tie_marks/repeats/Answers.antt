use Rattle.edi_topo.proofs.TieMarks.{all_marked}
use Rattle.edi_topo.proofs.tie_marks.repeats.Goals as goal

pub returns : goal.returns
returns g c = all_marked g.K.Ord.cmp c.args.pairs.now c.loop-i.i c.loop-i-test.false c.loop-i.marks.items c.loop-i.invariant
