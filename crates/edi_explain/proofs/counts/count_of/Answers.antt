use Rattle.std.proofs.Common.{◌∙◌, ap, length}
use Rattle.edi_explain.proofs.PlaceCounts.{counted}
use Rattle.edi_explain.proofs.counts.count_of.Goals as goal

pub returns : goal.returns
returns c = ap length c.places.ensures ∙ counted c.args.kind 0 c.args.plan.now.list
