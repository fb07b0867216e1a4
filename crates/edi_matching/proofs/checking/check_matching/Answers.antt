use Rattle.std.proofs.Common.{◌≡◌, ◌↔◌, ◌∙◌, ℕ, List, Option, IfOk, IsTrue, ap, arith, length, subst, sym}
use Rattle.edi_plan.specs.Plans.{IsPlace, PlanData}
use Rattle.edi_matching.specs.inner.Marks.{GoApart}
use Rattle.edi_matching.specs.inner.Proposals.{HoldsAt, ProposedMatching}
use Rattle.edi_matching.proofs.Checked.{all_reported}
use Rattle.edi_matching.proofs.checking.check_matching.Goals as goal

pub returns : goal.returns
returns c =
    let p = c.args.first.now in
    let q = c.args.second.now in
    let m = c.args.matching.now in
    let count : c.len-count.result ≡ length p.list = c.len-count.ensures ∙ ap (λ (x : PlanData). length x.list) (c.plan.ensures.plan ∙ c.sound.ensures) in
    let entered : length m.to ≡ length p.list = sym (ap length c.as_slice-to.ensures) ∙ (omega (arith, c.if-to-count.false) ∙ count) in
    let directed : length m.turned ≡ length p.list = sym (ap length c.as_slice.ensures) ∙ (omega (arith, c.if-as_slice-count.false) ∙ count) in
    let others : c.len.result ≡ length q.list = c.len.ensures ∙ ap (λ (x : PlanData). length x.list) (c.plan-2.ensures.plan ∙ c.sound-2.ensures) in
    let apart : GoApart m.to (length q.list) = subst (λ (to : List (Option ℕ)). GoApart to (length q.list)) c.as_slice-to.ensures
    (subst (GoApart c.as_slice-to.result.now) others (c.in_ok-are_apart.ensures.0 c.if-not-branch.false)) in
    all_reported c.args.schema.now p q m entered directed apart c.all_hold.result
    (subst (λ (x : ProposedMatching). IfOk c.all_hold.result (λ answer. IsTrue answer ↔ ((i : ℕ) → IsPlace x.plan i → HoldsAt x i))) c.of.ensures c.all_hold.ensures)
