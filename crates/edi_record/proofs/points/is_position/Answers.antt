use Rattle.edi_record.proofs.TextsTold.{position_told}
use Rattle.edi_record.proofs.points.is_position.Goals as goal

pub returns : goal.returns
returns c = position_told c.args.text.now c.read.result c.is_some.result c.is_some.ensures c.read.ensures
