use Rattle.std.proofs.Common.{◌≡◌, ◌∙◌, subst}
use Rattle.edi_plan.specs.Plans.{PlanData}
use Rattle.edi_matching.specs.declared.matching.Matching.{Matching}
use Rattle.edi_diff.specs.Changes.{AreChanges, ArePartsOfEach}
use Rattle.edi_diff.proofs.Outcomes.{text_by}
use Rattle.edi_diff.proofs.differing.changes_with_text.Goals as goal

pub returns : goal.returns
returns c =
    let became : Matching = record { to = c.from_vec.result; turned = c.from_vec-2.result } in
    let m = c.args.matching.now in
    let s = c.args.schema.now in
    let here = c.plan-plan.ensures.plan ∙ c.sound.ensures in
    let there = c.plan-other.ensures.plan ∙ c.sound-2.ensures in
    let found : Matching = record { to = c.in_ok-to.field-0.to.items; turned = c.in_ok-to.field-0.turned.items } in
    let is_to = c.from_vec.ensures in
    let is_turned = c.from_vec-2.ensures in
    let same : found ≡ became = cc in
    let are = subst (λ (q : PlanData). AreChanges c.args.first.now.accepted q m became) there
    (subst (λ (p : PlanData). AreChanges p c.plan-other.result.now m became) here (subst (λ (b : Matching). AreChanges c.plan-plan.result.now c.plan-other.result.now m b) same c.in_ok-to.ensures.changes)) in
    let parts = subst (λ (q : PlanData). ArePartsOfEach s c.args.first.now.accepted q m became c.in_ok-parts.parts.items) there
    (subst (λ (p : PlanData). ArePartsOfEach s p c.plan-other.result.now m became c.in_ok-parts.parts.items) here c.in_ok-parts.ensures) in
    text_by s c.args.first.now c.args.second.now m became c.in_ok-parts.parts.items c.args.form c.in_ok-text.text.items
    c.as_slice.result.now c.as_slice-2.result.now c.deref.result.now are parts c.as_slice.ensures c.as_slice-2.ensures c.deref.ensures.value c.in_ok-text.ensures.text c.in_ok-text.ensures.read
