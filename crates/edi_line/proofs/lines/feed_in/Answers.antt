use Rattle.std.proofs.Common.{Some, eqb, sym, ap, ◌+◌, ◌∙◌, arith}
use lib.Count.{count_trailing_zeros}
use Rattle.edi_line.proofs.Lanes.{found_in_lanes, none_in_lanes, found_behind, none_behind_either, left_found}
use Rattle.edi_line.proofs.lines.feed_in.Goals as goal

pub returns-then-feeds-ne0 : goal.returns-then-feeds-ne0
returns-then-feeds-ne0 c =
    let feeds = c.feeds_among-feeds in
    ap (λ m. Some (c.loop-seen.seen + count_trailing_zeros 64 m)) feeds.ensures
    ∙ found_in_lanes (λ b. eqb b 10) c.args.bytes.now c.loop-seen.seen 32 (omega arith) (omega arith) (λ e. omega (arith, feeds.ensures, e)) c.loop-seen.invariant.none

pub loop-seen-preserved : goal.loop-seen-preserved
loop-seen-preserved c = record {
  within = omega arith;
  none = none_in_lanes (λ b. eqb b 10) c.args.bytes.now c.loop-seen.seen 32 (omega arith) (omega (arith, c.feeds_among-feeds.ensures)) c.loop-seen.invariant.none;
}

pub returns-in_err-left : goal.returns-in_err-left
returns-in_err-left c =
    rw c.from_residual.ensures (none_behind_either (λ b. eqb b 10) c.args.bytes.now c.loop-seen.seen c.loop-seen.invariant.within c.loop-seen.invariant.none
    (sym (left_found c.args.bytes.now c.loop-seen.seen c.memchr.result c.memchr.ensures) ∙ c.in_err-left.was))

pub returns : goal.returns
returns c =
    found_behind (λ b. eqb b 10) c.args.bytes.now c.loop-seen.seen c.in_ok-left.left c.loop-seen.invariant.within c.loop-seen.invariant.none
    (sym (left_found c.args.bytes.now c.loop-seen.seen c.memchr.result c.memchr.ensures) ∙ c.in_ok-left.was)
