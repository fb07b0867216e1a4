use Rattle.std.proofs.Common.{None, get_or}
use Rattle.edi_line.proofs.Truths.{some_is}
use Rattle.edi_matching.proofs.Checked.{matched_more}
use Rattle.edi_matching.proofs.record.all_matched.Goals as goal

pub loop-end-preserved : goal.loop-end-preserved
loop-end-preserved c =
    let e = c.end-item.result in
    matched_more c.args.to.now c.args.ends.now c.loop-end.end-index e c.loop-end-test.true c.end-item.is (some_is (get_or c.args.to.now e.target None) c.if-is_none.ensures) c.loop-end.invariant
