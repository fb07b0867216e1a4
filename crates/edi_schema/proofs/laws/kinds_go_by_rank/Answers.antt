use Rattle.edi_schema.proofs.RoleOrder.{role_order}
use Rattle.edi_schema.proofs.laws.kinds_go_by_rank.Goals as goal

pub returns : goal.returns
returns c = role_order
