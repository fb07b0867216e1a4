use borrow.Author.Count.{below_more}
use Rattle.edi_matching.proofs.record.Proposed.all_hold.Goals as goal

pub loop-place-preserved : goal.loop-place-preserved
loop-place-preserved c = below_more _ c.loop-place.place c.loop-place.invariant (c.in_ok-holds_at.ensures.0 c.if-not-branch.false)
