use Rattle.std.proofs.Common.{◌≡◌, ◌∙◌, ℕ, Bool, List, Option, length, ap, sym, subst, true≢false}
use Rattle.edi_report.specs.Tables.{AreMarks}
use Rattle.edi_plan.specs.Plans.{PlanData}
use Rattle.edi_diff.proofs.Outcomes.{all_matched, not_true, total_reported, total_went, total_marked}
use Rattle.edi_diff.proofs.totals.is_total.Goals as goal

pub returns-else-all_went : goal.returns-else-all_went
returns-else-all_went c = (
  λ no. absurd (true≢false (sym no)),
  λ total.
      let p = c.args.first.now.accepted in
      let q = c.args.second.now.accepted in
      let m = c.args.matching.now in
      absurd (not_true c.all_went.result c.if-all_went.false (c.all_went.ensures.1 (all_matched m.to c.as_slice-to.result.now c.as_slice-to.ensures (total_went p q m c.requires total)))),
)

pub returns-in_ok-marks : goal.returns-in_ok-marks
returns-in_ok-marks c =
    let p = c.args.first.now.accepted in
    let q = c.args.second.now.accepted in
    let m = c.args.matching.now in
    let marks = c.deref.result.now in
    let long : c.len.result ≡ length q.list = c.len.ensures ∙ ap (λ (d : PlanData). length d.list) (c.plan.ensures.plan ∙ c.sound.ensures) in
    let are : AreMarks m.to (length q.list) marks = subst (λ (n : ℕ). AreMarks m.to n marks) long
    (subst (λ (to : List (Option ℕ)). AreMarks to c.len.result marks) c.as_slice-to.ensures
    (subst (λ (ms : List Bool). AreMarks c.as_slice-to.result.now c.len.result ms) (sym c.deref.ensures.value) c.in_ok-marks.ensures)) in
    let went = all_matched c.as_slice-to.result.now m.to (sym c.as_slice-to.ensures) (c.all_went.ensures.0 c.if-all_went.true) in
    (λ t. total_reported p q m marks c.requires are went (c.all_marked.ensures.0 t), λ total. c.all_marked.ensures.1 (total_marked p q m marks are total))
