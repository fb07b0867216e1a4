use Rattle.std.proofs.Common.{arith}
use Rattle.edi_topo.proofs.TieMarks.{member_fits, one_marked, not_marked}
use Rattle.edi_topo.proofs.tie_marks.mark_repeat.Goals as goal

pub index_mut-requires : goal.index_mut-requires
index_mut-requires g c =
    let fits = member_fits g.K.Ord.cmp c.args.pairs.now c.args.i c.requires.here c.requires.within c.member_at.result c.member_at.ensures in
    omega (arith, fits, c.requires.before.all)

pub returns-then-is_repeat : goal.returns-then-is_repeat
returns-then-is_repeat g c =
    one_marked g.K.Ord.cmp c.args.pairs.now c.args.i c.requires.low c.requires.here c.args.marks.now.items c.requires.before c.member_at.result
    (rw c.if-is_repeat.true at c.is_repeat.ensures) c.member_at.ensures
    (member_fits g.K.Ord.cmp c.args.pairs.now c.args.i c.requires.here c.requires.within c.member_at.result c.member_at.ensures)

pub returns-else-is_repeat : goal.returns-else-is_repeat
returns-else-is_repeat g c =
    not_marked g.K.Ord.cmp c.args.pairs.now c.args.i c.requires.low c.requires.here c.args.marks.now.items c.requires.before (rw c.if-is_repeat.false at c.is_repeat.ensures)
