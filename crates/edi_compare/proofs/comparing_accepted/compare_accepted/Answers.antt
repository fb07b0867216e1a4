use Rattle.std.proofs.Common.{◌∙◌, sym, subst, IfOk}
use Rattle.edi_plan.specs.Plans.{PlanData}
use Rattle.edi_rank.specs.Labelling.{AreLabels}
use Rattle.edi_compare.specs.HeldPlans.{IsHeldPlan}
use Rattle.edi_compare.specs.Laws.{IsAcceptedPlan}
use Rattle.edi_compare.specs.Verdicts.{IsPlanVerdict}
use Rattle.edi_compare.proofs.comparing_accepted.compare_accepted.Goals as goal

pub labels_of-requires : goal.labels_of-requires
labels_of-requires c =
    let held = c.requires.second in
    subst (IsAcceptedPlan c.args.schema.now) (sym c.sound.ensures) (held.0, held.2, held.3)

pub verdict_of-requires-clause-held : goal.verdict_of-requires-clause-held
verdict_of-requires-clause-held c = subst (IsHeldPlan c.args.schema.now) (sym c.sound-2.ensures) c.requires.second

pub verdict_of-requires-clause-labels : goal.verdict_of-requires-clause-labels
verdict_of-requires-clause-labels c =
    subst (λ (q : PlanData). AreLabels c.args.schema.now q c.in_ok-labels.labels) (c.sound.ensures ∙ sym c.sound-2.ensures) c.in_ok-labels.ensures

pub returns : goal.returns
returns c =
    subst (λ (q : PlanData). IfOk c.verdict_of.result (IsPlanVerdict c.args.schema.now c.args.a.now q)) c.sound-2.ensures (c.verdict_of.ensures c.args.a.now c.in_ok-first.ensures)
