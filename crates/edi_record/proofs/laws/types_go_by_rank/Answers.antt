use Rattle.edi_record.proofs.KindOrder.{kind_order}
use Rattle.edi_record.proofs.laws.types_go_by_rank.Goals as goal

pub returns : goal.returns
returns c = kind_order
