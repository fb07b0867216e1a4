use Rattle.std.proofs.Common.{◌-◌, sym, subst}
use Rattle.edi_topo.specs.EarlierRecords.{IsEarlierByRule}
use Rattle.edi_topo.proofs.AtPlaces.{earlier_arc, earlier_node}
use Rattle.edi_topo.proofs.at_record.earlier_of.Goals as goal

pub returns-in-403 : goal.returns-in-403
returns-in-403 c = λ p at are first. subst (IsEarlierByRule p c.args.rule (at - 1)) (sym c.repeated_in.ensures) (earlier_node p c.args.rule at first c.args.findings.now are c.in-403.is)

pub returns-in-405 : goal.returns-in-405
returns-in-405 c = λ p at are first. subst (IsEarlierByRule p c.args.rule (at - 1)) (sym c.repeated_in-in-405.ensures) (earlier_arc p c.args.rule at first c.args.findings.now are c.in-405.is)
