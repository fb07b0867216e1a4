use Rattle.edi_matching.specs.contracts.entries.NeighbourKeyPartialEq.TheImpl.{ghosts as neighbours}
use Rattle.edi_matching.specs.inner.Additions.{AreAlike}
use Rattle.edi_matching.proofs.KeysAdded.{Shared, then_more}
use Rattle.edi_matching.proofs.growing.add_objects_in_rounds.Goals as goal

pub returns-then-still_left-left : goal.returns-then-still_left-left
returns-then-still_left-left c =
    let p = c.args.first.plan.now in
    let q = c.args.second.plan.now in
    let round = c.in_ok-add_objects_beside.ensures in
    then_more (AreAlike p q) c.args.to.now c.args.taken.now c.loop.to c.loop.taken c.add_objects_beside.new.to c.add_objects_beside.new.taken c.loop.invariant (Shared neighbours.eq p q round.here round.there) (λ i j w. w.1)
    round.pairs

pub loop-preserved : goal.loop-preserved
loop-preserved c =
    let p = c.args.first.plan.now in
    let q = c.args.second.plan.now in
    let round = c.in_ok-add_objects_beside.ensures in
    then_more (AreAlike p q) c.args.to.now c.args.taken.now c.loop.to c.loop.taken c.add_objects_beside.new.to c.add_objects_beside.new.taken c.loop.invariant (Shared neighbours.eq p q round.here round.there) (λ i j w. w.1)
    round.pairs
