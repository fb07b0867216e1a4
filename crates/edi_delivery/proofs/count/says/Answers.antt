use Rattle.edi_record.proofs.Counted.{told_count}
use Rattle.edi_delivery.proofs.count.says.Goals as goal

pub returns : goal.returns
returns c = told_count c.args.text.now c.args.number c.is_count.result c.is_count.ensures
