use Rattle.std.proofs.Common.{inl, refl}
use Rattle.edi_changes.proofs.Orders.{not_more}
use Rattle.edi_changes.proofs.merge.lesser.Goals as goal

pub returns-in-Equal : goal.returns-in-Equal
returns-in-Equal c = inl (refl, not_more c.args.one.now c.args.other.now c.cmp.result c.cmp.ensures c.in-Equal.is)
