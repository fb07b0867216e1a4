use Rattle.std.proofs.Common.{◌-◌, ℕ, subst}
use Rattle.edi_record.specs.RecordRefusal.{IsRecordRefusal}
use Rattle.edi_record.specs.declared.fault.RecordFault.{RecordFault}
use Rattle.edi_topo.specs.EarlierRecords.{IsEarlierRecordIfAny}
use Rattle.edi_topo.specs.TopologyRules.{BreaksTopologyRule}
use Rattle.edi_compare.proofs.Phases.{topology_refusal}
use Rattle.edi_explain.specs.EndNodes.{IsEndNodeIfAny}
use Rattle.edi_explain.proofs.Earlier.{topology_earlier}
use Rattle.edi_explain.proofs.examined.found_in_plan.Goals as goal

pub returns-in-Memory : goal.returns-in-Memory
returns-in-Memory c = c.found_alone.ensures c.args.schema.now c.args.bytes.now tt tt

pub returns-in-Broken : goal.returns-in-Broken
returns-in-Broken c =
    let s = c.args.schema.now in
    let b = c.args.bytes.now in
    let p = c.args.plan.now in
    let rule = c.in-Broken.rule in
    let at = c.in-Broken.at in
    let least = subst (IsRecordRefusal (BreaksTopologyRule p)) c.in-Broken.is c.requires.least in
    let earlier = subst (λ (f : RecordFault). IsEarlierRecordIfAny p f c.args.earlier) c.in-Broken.is c.requires.earlier in
    c.found_at.ensures s b (topology_refusal s b rule at c.requires.held p c.requires.plan least)
    (topology_earlier s b p c.requires.plan rule (at - 1) at c.args.earlier least.is earlier)
    (subst (λ (n : ℕ). IsEndNodeIfAny s b rule n c.end_node-node.result) c.saturating_sub.ensures (c.end_node-node.ensures s b c.requires.plan))
