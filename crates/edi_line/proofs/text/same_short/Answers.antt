use Rattle.std.proofs.Common.{◌∙◌, nat_eq, take, ap, arith}
use Rattle.std.specs.Cmp.Lexicographic.{pointwise}
use Rattle.edi_line.proofs.SameFront.{other_length}
use Rattle.edi_line.proofs.text.same_short.Goals as goal

pub returns-then-len-other_len : goal.returns-then-len-other_len
returns-then-len-other_len c =
    other_length c.args.len c.args.other_len c.args.first.now c.args.second.now c.if-len-other_len.true (omega (arith, c.told-first, c.requires.len)) (omega (arith, c.told-second, c.requires.other_len))

pub returns : goal.returns
returns c = c.same_front.ensures ∙ ap (λ n. pointwise nat_eq (take c.args.len c.args.first.now) (take n c.args.second.now)) c.if-len-other_len.false
