use Rattle.edi_record.proofs.GroupRules.{no_pointer_told}
use Rattle.edi_record.proofs.TextParts.{pointer_found}
use Rattle.edi_record.proofs.group_rules.is_no_pointer.Goals as goal

pub returns : goal.returns
returns c = no_pointer_told c.args.text.now c.read.result c.is_none.result c.is_none.ensures (pointer_found c.args.text.now c.read.result c.read.ensures)
