use Rattle.std.proofs.Common.{rules}
use Rattle.edi_line.proofs.order.Order.note.Goals as goal
use Rattle.edi_line.proofs.order.Order.note.Goals.{in-Bom, in-Cse, in-Rty, in-Eom, in-Other}

pub returns : goal.returns
returns c = elim c.match-kind.branch [
  | in-Bom w ↦ search rules
  | in-Cse w ↦ search rules
  | in-Rty w ↦ search rules
  | in-Eom w ↦ search rules
  | in-Other w ↦ search rules
]
