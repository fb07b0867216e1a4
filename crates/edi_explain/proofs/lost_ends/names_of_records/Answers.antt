use Rattle.std.proofs.Common.{[]}
use Rattle.edi_explain.proofs.LostEnds.{no_names}
use Rattle.edi_explain.proofs.lost_ends.names_of_records.Goals as goal

pub returns : goal.returns
returns c = c.in_ok-hand_on.ensures [] (no_names c.with_hasher.result.keys c.with_hasher.ensures.empty)
