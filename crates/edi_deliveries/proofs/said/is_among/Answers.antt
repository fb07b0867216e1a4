use Rattle.std.proofs.Common.{◌∙◌}
use Rattle.edi_deliveries.proofs.Among.{any_text}
use Rattle.edi_deliveries.proofs.said.is_among.Goals as goal

pub returns : goal.returns
returns c = c.contains.ensures ∙ any_text c.args.name.now c.args.found.now.keys
