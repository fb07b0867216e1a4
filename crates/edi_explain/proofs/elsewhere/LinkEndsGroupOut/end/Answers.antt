use Rattle.edi_explain.proofs.LinkEnds.{holds_whole}
use Rattle.edi_explain.proofs.elsewhere.LinkEndsGroupOut.end.Goals as goal

pub returns : goal.returns
returns c = λ groups group one held. holds_whole groups group c.args.self.now held
