use Rattle.std.proofs.Common.{suc, ap}
use Rattle.edi_topo.specs.inner.Repeats.{repeat_place}
use Rattle.edi_topo.specs.inner.Arcs.{RepeatsAnEarlierArc}
use Rattle.edi_topo.specs.inner.Nodes.{RepeatsAnEarlier}
use Rattle.edi_topo.proofs.AtPlaces.{has_it, node_breaks, arc_breaks}
use Rattle.edi_topo.proofs.sound.Sound.of.Goals as goal

pub unreachable-requires : goal.unreachable-requires
unreachable-requires c =
    let place = c.in_default-Err.field-0-1.place in
    c.requires.sound 405 (suc place) (arc_breaks c.args.plan place
    (has_it (RepeatsAnEarlierArc c.args.plan) (repeat_place c.args.findings.arcs) place (ap repeat_place c.in_default-Err.is-1) c.requires.findings.arc_repeat))

pub unreachable-requires-in-Err-default : goal.unreachable-requires-in-Err-default
unreachable-requires-in-Err-default c =
    let place = c.in-Err-default.field-0-0.place in
    c.requires.sound 403 (suc place) (node_breaks c.args.plan place
    (has_it (RepeatsAnEarlier c.args.plan) (repeat_place c.args.findings.nodes) place (ap repeat_place c.in-Err-default.is-0) c.requires.findings.node_repeat))
