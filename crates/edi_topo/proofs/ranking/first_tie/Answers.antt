use Rattle.edi_topo.proofs.KeyPlaces.{tied_more, untied_more}
use Rattle.edi_topo.proofs.ranking.first_tie.Goals as goal
use Rattle.edi_topo.proofs.ranking.first_tie.Goals.{then-is_repeat, else-is_repeat}

pub loop-i-preserved : goal.loop-i-preserved
loop-i-preserved g c =
    let loop = c.loop-i in
    elim c.if-is_repeat.branch [
      | then-is_repeat w ↦ rw w.least-is (tied_more g.K.Ord.cmp c.args.pairs.now loop.i loop.auto.i c.loop-i-test.true (rw w.if-is_repeat.true at c.is_repeat.ensures) w.tied_at.result w.tied_at.ensures.member w.tied_at.ensures.earlier loop.least w.lesser.result w.lesser.ensures loop.invariant)
      | else-is_repeat w ↦ rw w.least-is (untied_more g.K.Ord.cmp c.args.pairs.now loop.i loop.auto.i c.loop-i-test.true loop.least (rw w.if-is_repeat.false at c.is_repeat.ensures) loop.invariant)
    ]
