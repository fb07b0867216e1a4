use Rattle.std.proofs.Common.{sym}
use Rattle.edi_plan.specs.inner.Names.{name_lent}
use Rattle.edi_plan.proofs.TargetLemmas.{only_named}
use Rattle.edi_plan.proofs.targets.place_of.Goals as goal

pub returns : goal.returns
returns c = sym (only_named c.args.records.now (name_lent c.args.name.now) c.repeat.result c.in-Some-place_near.place (c.repeat.ensures c.args.records.now c.requires.names) c.if-is_none.ensures c.in-Some-place_near.ensures)
