use Rattle.std.proofs.Common.{◌↔◌, IsTrue, subst, sym, ◌∙◌}
use Rattle.edi_plan.specs.Plans.{PlanData}
use Rattle.edi_rank.specs.Labelling.{AreLabels}
use Rattle.edi_compare.specs.Laws.{IsAcceptedPlan}
use Rattle.edi_matching.specs.inner.Checksums.{HaveOneChecksum}
use Rattle.edi_matching.proofs.Checksums.{other_checksum}
use Rattle.edi_matching.proofs.same.same_pairing.Goals as goal

pub returns-then-not-may_be_same : goal.returns-then-not-may_be_same
returns-then-not-may_be_same c =
    let contents =
    subst (λ (p : PlanData). IsTrue c.may_be_same.result ↔ HaveOneChecksum p c.args.second.now) (c.plan-plan.ensures.plan ∙ c.sound.ensures)
    (subst (λ (q : PlanData). IsTrue c.may_be_same.result ↔ HaveOneChecksum c.plan-plan.result.now q) (c.plan-other.ensures.plan ∙ c.sound-2.ensures) c.may_be_same.ensures) in
    other_checksum c.args.schema.now c.args.first.now c.args.second.now c.keeps.ensures c.requires.first c.requires.second c.may_be_same.result contents c.if-not-may_be_same.true

pub labels_of-requires : goal.labels_of-requires
labels_of-requires c = subst (IsAcceptedPlan c.args.schema.now) (sym c.sound-3.ensures) c.requires.first

pub labels_of-requires-2 : goal.labels_of-requires-2
labels_of-requires-2 c = subst (IsAcceptedPlan c.args.schema.now) (sym c.sound-4.ensures) c.requires.second

pub pairing_by_labels-requires : goal.pairing_by_labels-requires
pairing_by_labels-requires c = record {
  first = c.requires.first;
  second = c.requires.second;
  labels = subst (λ (p : PlanData). AreLabels c.args.schema.now p c.in_ok-labels.labels) c.sound-3.ensures c.in_ok-labels.ensures;
  others = subst (λ (p : PlanData). AreLabels c.args.schema.now p c.in_ok-others.others) c.sound-4.ensures c.in_ok-others.ensures;
}
