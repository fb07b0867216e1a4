use Rattle.std.proofs.Common.{[]}
use Rattle.edi_explain.proofs.lost_ends.key_of_names.Goals as goal

pub returns : goal.returns
returns c = c.in_ok-hand_on.ensures [] c.new.ensures
