use Rattle.std.proofs.Common.{◌∙◌, ◌/◌}
use Rattle.edi_diff.proofs.Coded.{place_known}
use Rattle.edi_diff.proofs.proposing.place_of.Goals as goal

pub returns : goal.returns
returns c = c.unwrap_or.ensures ∙ place_known (c.args.code / 2) c.try_from.result c.try_from.ensures
