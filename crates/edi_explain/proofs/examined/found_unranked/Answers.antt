use Rattle.std.proofs.Common.{◌-◌, arith, subst}
use Rattle.edi_record.specs.RecordRefusal.{IsRecordRefusal}
use Rattle.edi_record.specs.declared.fault.RecordFault.{RecordFault}
use Rattle.edi_rank.specs.EqualObjects.{BreaksObjectRule, IsEqualObjectIfAny}
use Rattle.edi_compare.proofs.Phases.{object_refusal}
use Rattle.edi_explain.proofs.Earlier.{no_end_node, object_earlier, object_rule}
use Rattle.edi_explain.proofs.examined.found_unranked.Goals as goal

pub returns-in-Memory : goal.returns-in-Memory
returns-in-Memory c = λ s b p held states least equal. c.found_alone.ensures s b tt tt

pub returns-in-Broken : goal.returns-in-Broken
returns-in-Broken c = λ s b p held states least equal.
    let rule = c.in-Broken.rule in
    let at = c.in-Broken.at in
    let broken = subst (IsRecordRefusal (BreaksObjectRule p)) c.in-Broken.is least in
    let earlier = subst (λ (f : RecordFault). IsEqualObjectIfAny p f c.args.unranked.earlier) c.in-Broken.is equal in
    let is = object_rule p rule at broken.is in
    c.found_at.ensures s b (object_refusal s b rule at held p states broken) (object_earlier s b p states rule (at - 1) c.args.unranked.earlier is earlier)
    (no_end_node s b rule (at - 1) (λ e. omega (arith, e, is)) (λ e. omega (arith, e, is)))
