use Rattle.edi_changes.proofs.Orders.{least_behind}
use Rattle.edi_changes.proofs.merge.first_subject.Goals as goal

pub returns : goal.returns
returns c = least_behind c.args.entries.now c.in-Some.first.now c.in-Some.field-0-1.now c.in-Some.ensures c.requires
