use Rattle.std.proofs.Common.{below_more, true≢false, sym}
use Rattle.edi_line.proofs.Truths.{some_is}
use Rattle.edi_diff.proofs.Outcomes.{none_gone}
use Rattle.edi_diff.proofs.totals.all_went.Goals as goal

pub returns-then-is_none : goal.returns-then-is_none
returns-then-is_none c = (
  λ no. absurd (true≢false (sym no)),
  λ all. let there = all c.loop-went.went-index c.loop-went-test.true in absurd (none_gone _ there.0 there.1 c.if-is_none.ensures),
)

pub loop-went-preserved : goal.loop-went-preserved
loop-went-preserved c = below_more _ _ c.loop-went.invariant (some_is _ c.if-is_none.ensures)
