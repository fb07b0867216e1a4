use Rattle.std.proofs.Common.{◌∙◌, arith, sym}
use Rattle.edi_rank.specs.Same.{directed}
use Rattle.edi_topo.proofs.FirstDifference.{differs, tied}
use Rattle.edi_diff.proofs.SharedPoints.{apart, length-directed, one_more}
use Rattle.edi_diff.proofs.directions.count_shared.Goals as goal

pub returns-then-is_ne : goal.returns-then-is_ne
returns-then-is_ne c =
    let a = directed c.args.backwards c.args.points.now in
    let b = directed c.args.others_backwards c.args.others.now in
    let order = c.cmp.result in
    record {
      here = omega (arith, c.loop-count-test.true, c.loop-count.auto.count-end, c.min-most.ensures, length-directed c.args.backwards c.args.points.now);
      there = omega (arith, c.loop-count-test.true, c.loop-count.auto.count-end, c.min-most.ensures, length-directed c.args.others_backwards c.args.others.now);
      same = c.loop-count.invariant;
      no_more = λ d h g e. apart _ _ order c.cmp.ensures (differs order (sym c.is_ne.ensures ∙ c.if-is_ne.true)) (c.point_at-point.ensures d ∙ (e ∙ sym (c.point_at.ensures d)));
    }

pub loop-count-init : goal.loop-count-init
loop-count-init c = λ k d h. absurd (omega (arith, h))

pub loop-count-preserved : goal.loop-count-preserved
loop-count-preserved c =
    one_more (directed c.args.backwards c.args.points.now) (directed c.args.others_backwards c.args.others.now) c.loop-count.count _ _ c.cmp.result
    c.point_at-point.ensures c.point_at.ensures c.cmp.ensures (tied c.cmp.result (sym c.is_ne.ensures ∙ c.if-is_ne.false)) c.loop-count.invariant

pub returns : goal.returns
returns c =
    let a = length-directed c.args.backwards c.args.points.now in
    let b = length-directed c.args.others_backwards c.args.others.now in
    record {
      here = omega (arith, c.min-most.ensures, a);
      there = omega (arith, c.min-most.ensures, b);
      same = λ k d h. c.loop-count.invariant k d (omega (arith, h, c.loop-count-test.false));
      no_more = λ d h g e. absurd (omega (arith, h, g, c.min-most.ensures, a, b));
    }
