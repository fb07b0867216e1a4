use Rattle.edi_record.proofs.Counted.{count_told}
use Rattle.edi_record.proofs.counts.is_count.Goals as goal

pub returns : goal.returns
returns c = count_told c.args.text.now c.args.number c.says.result c.says.ensures
