use Rattle.edi_topo.proofs.MarksPlaced.{all_placed}
use Rattle.edi_topo.proofs.marks.marks_by_place.Goals as goal

pub returns : goal.returns
returns c = all_placed c.args.places.now c.args.marks.now c.loop-member.member c.args.count c.loop-member.by_place.items c.loop-member-test.false c.loop-member.invariant
