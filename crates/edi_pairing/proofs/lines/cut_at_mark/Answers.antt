use Rattle.edi_pairing.proofs.LineLemmas.{cut_at_mark, no_mark}
use Rattle.edi_pairing.proofs.lines.cut_at_mark.Goals as goal

pub returns-in-None : goal.returns-in-None
returns-in-None c = λ front mark rest is e. no_mark c.args.text.now front rest mark c.in-None.ensures is e

pub returns-in-Some : goal.returns-in-Some
returns-in-Some c =
    cut_at_mark c.args.text.now c.split_at.result.0.now c.split_at.result.1.now c.in-Some.at c.in-Some.ensures.0.high c.in-Some.ensures.1 c.in-Some.ensures.0.before c.split_at.ensures.front c.split_at.ensures.back
