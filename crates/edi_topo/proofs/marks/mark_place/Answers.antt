use Rattle.std.proofs.Common.{length}
use Rattle.edi_topo.proofs.MarksPlaced.{one_placed, not_placed}
use Rattle.edi_topo.proofs.marks.mark_place.Goals as goal

pub returns-then-marks-member : goal.returns-then-marks-member
returns-then-marks-member c =
    one_placed c.args.places.now c.args.marks.now c.args.member c.requires.here (length c.args.by_place.now.items) c.args.by_place.now.items c.requires.before
    c.if-marks-member.true (c.requires.within c.args.member 0 c.requires.here)

pub returns-else-marks-member : goal.returns-else-marks-member
returns-else-marks-member c =
    not_placed c.args.places.now c.args.marks.now c.args.member c.requires.here (length c.args.by_place.now.items) c.args.by_place.now.items c.requires.before c.if-marks-member.false
