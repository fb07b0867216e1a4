use Rattle.std.proofs.Common.{sym, ◌∙◌, true≢false}
use Rattle.edi_topo.specs.inner.Nodes.{RepeatsAnEarlier}
use Rattle.edi_topo.proofs.AtPlaces.{at_first, breaks_of_node}
use Rattle.edi_topo.proofs.at_record.rule_of_node.Goals as goal

pub returns-else-is_place : goal.returns-else-is_place
returns-else-is_place c rule h =
    let d = breaks_of_node c.args.plan.now c.args.place c.requires.node rule h in
    true≢false (sym (c.is_place.ensures.1 (at_first (RepeatsAnEarlier c.args.plan.now) c.args.repeat c.args.place c.requires.first c.requires.ahead d.1)) ∙ c.if-is_place.false)
