use Rattle.std.proofs.Common.{◌↔◌, IsTrue, subst, Contains}
use Rattle.edi_explain.proofs.LostEnds.{among_is}
use Rattle.edi_explain.proofs.lost_ends.is_among.Goals as goal

pub returns : goal.returns
returns c =
    subst (λ name. IsTrue c.contains.result ↔ Contains c.args.names.now.keys name) c.in_ok-name.ensures
    (among_is c.args.names.now.keys c.in_ok-name.name c.contains.result c.contains.ensures)
