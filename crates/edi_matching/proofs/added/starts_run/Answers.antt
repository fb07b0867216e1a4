use Rattle.std.proofs.Common.{ap, get_or}
use Rattle.edi_matching.proofs.RunsAdded.{starts_by}
use Rattle.edi_matching.proofs.added.starts_run.Goals as goal

pub returns : goal.returns
returns c e =
    let entries = e.args.pairs.now in
    starts_by c.K.PartialEq.eq entries e.args.at (get_or entries e.args.at e.index-pairs-at.result) e.requires e.if-at-eq0.false (ap (get_or entries e.args.at) e.index-pairs-at.is) e.has_key.result e.has_key.ensures
