use borrow.Author.Count.{below_more}
use Rattle.edi_matching.proofs.growing.matches_all_of.Goals as goal

pub loop-place-preserved : goal.loop-place-preserved
loop-place-preserved c = below_more _ c.loop-place.place c.loop-place.invariant (λ m. c.is_kept.ensures c.if-not-is_kept.false m.0 m.1)
