use Rattle.edi_explain.proofs.LinkEnds.{none_of_these}
use Rattle.edi_explain.proofs.elsewhere.both_of.Goals as goal

pub returns-in-None : goal.returns-in-None
returns-in-None c = λ list h. none_of_these list c.in_ok-home.home c.args.ends.home c.args.ends.stray c.in_ok-home.was c.in-None.is h
