use Rattle.std.proofs.Common.{subst, ◌∙◌}
use Rattle.edi_plan.specs.Plans.{PlanData}
use Rattle.edi_compare.specs.Counterparts.{IsNumbered}
use Rattle.edi_matching.proofs.SamePlans.{accepted_classed, many_have_counterparts, not_as_many, not_carried}
use Rattle.edi_matching.proofs.same.pairing_by_labels.Goals as goal

pub returns-then-not-are_as_many : goal.returns-then-not-are_as_many
returns-then-not-are_as_many c =
    not_as_many c.args.schema.now c.args.first.now c.args.second.now c.args.labels c.args.others.now c.keeps.ensures c.requires.first c.requires.second c.requires.labels c.requires.others
    c.are_as_many.result c.are_as_many.ensures c.if-not-are_as_many.true

pub pairing_by_numbers-requires : goal.pairing_by_numbers-requires
pairing_by_numbers-requires c =
    many_have_counterparts c.args.schema.now c.args.first.now c.args.second.now c.args.labels c.args.others.now c.requires.labels c.requires.others
    c.in_ok-records.records (subst (λ (p : PlanData). IsNumbered p c.args.labels c.in_ok-records.records) (c.plan.ensures.plan ∙ c.sound.ensures) c.in_ok-records.ensures)
    (c.are_as_many.ensures.0 c.if-not-are_as_many.false)

pub check_pairing-requires : goal.check_pairing-requires
check_pairing-requires c = accepted_classed c.args.schema.now c.args.first.now c.keeps.ensures c.requires.first

pub returns : goal.returns
returns c =
    not_carried c.args.schema.now c.args.first.now c.args.second.now c.args.labels c.args.others.now c.keeps.ensures c.requires.first c.requires.second c.requires.labels c.requires.others
    c.in_ok-records.records (subst (λ (p : PlanData). IsNumbered p c.args.labels c.in_ok-records.records) (c.plan.ensures.plan ∙ c.sound.ensures) c.in_ok-records.ensures)
    c.in_ok-pairing.pairing c.in_ok-pairing.ensures c.in_ok-check_pairing.field-0 c.in_ok-check_pairing.ensures c.if-branch.false
