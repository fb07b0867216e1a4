use Rattle.std.proofs.Common.{◌∙◌, sym, subst}
use Rattle.std.proofs.lemmas.Result.{IfOk-weaker}
use Rattle.edi_plan.specs.Plans.{PlanData}
use Rattle.edi_record.specs.RecordRefusal.{IsRecordRefusal}
use Rattle.edi_rank.specs.EqualObjects.{BreaksObjectRule}
use Rattle.edi_topo.specs.TopologyRules.{BreaksTopologyRule}
use Rattle.edi_compare.proofs.Phases.{topology_held}
use Rattle.edi_line.specs.AllBroken.{AreAllBroken}
use Rattle.edi_census.proofs.PhaseByPhase.{all_of_topology, all_of_objects, is_some, none_broken}
use Rattle.edi_census.proofs.phases.broken_in_plan.Goals as goal

pub returns-then-not-is_none : goal.returns-then-not-is_none
returns-then-not-is_none c =
    all_of_topology c.args.schema.now c.args.bytes.now c.in_ok-list.list.items c.requires.held c.args.plan c.requires.plan c.in_ok-list.ensures
    (is_some c.deref.result.now c.in_ok-list.list.items c.is_none.result c.if-not-is_none.true c.is_none.ensures.some c.deref.ensures.value)

pub returns-in-Ok : goal.returns-in-Ok
returns-in-Ok c =
    let s = c.args.schema.now in
    let b = c.args.bytes.now in
    let held = topology_held s b c.requires.held c.args.plan c.requires.plan c.in-Ok.ensures.sound in
    IfOk-weaker c.broken_objects.result _ _ (λ list h. all_of_objects s b list.items held c.args.plan c.requires.plan
    (subst (λ (p : PlanData). AreAllBroken (BreaksObjectRule p) list.items) c.in-Ok.ensures.plan h)) c.broken_objects.ensures

pub unreachable-requires : goal.unreachable-requires
unreachable-requires c =
    let least = subst (IsRecordRefusal (BreaksTopologyRule c.args.plan)) c.in-Err-Broken.field-0-is c.in-Err-Broken.ensures.least in
    none_broken (BreaksTopologyRule c.args.plan) c.in_ok-list.list.items c.in_ok-list.ensures (sym c.deref.ensures.value ∙ c.is_none.ensures.none c.if-not-is_none.false) _ _ least.is
