use Rattle.std.proofs.Common.{◌∙◌, nat_eq, take, ap, arith}
use Rattle.std.specs.Cmp.Lexicographic.{pointwise}
use Rattle.edi_line.proofs.SameFront.{short_front, other_front, long_front}
use Rattle.edi_line.proofs.text.same_front.Goals as goal

pub returns-then-len-le8 : goal.returns-then-len-le8
returns-then-len-le8 c =
    short_front c.from-len.result c.args.first.now c.args.second.now c.equal_lanes-heads.result c.if-len-le8.true c.equal_lanes-heads.ensures
    ∙ ap (λ n. pointwise nat_eq (take n c.args.first.now) (take n c.args.second.now)) c.from-len.ensures

pub returns-then-heads-lt8 : goal.returns-then-heads-lt8
returns-then-heads-lt8 c =
    other_front c.from-len.result c.args.first.now c.args.second.now c.equal_lanes-heads.result c.if-len-le8.false c.if-heads-lt8.true c.equal_lanes-heads.ensures
    ∙ ap (λ n. pointwise nat_eq (take n c.args.first.now) (take n c.args.second.now)) c.from-len.ensures

pub returns : goal.returns
returns c =
    long_front c.from-len.result c.args.first.now c.args.second.now c.equal_lanes-heads.result c.equal_lanes.result c.if-len-le8.false (omega (arith, c.from-len.ensures, c.requires)) c.if-heads-lt8.false
    c.equal_lanes-heads.ensures c.equal_lanes.ensures
    ∙ ap (λ n. pointwise nat_eq (take n c.args.first.now) (take n c.args.second.now)) c.from-len.ensures
