use Rattle.std.proofs.Common.{◌<◌, ◌∙◌, ℕ, ap, length, refl, subst, sym}
use Rattle.edi_plan.specs.Plans.{PlanData}
use Rattle.edi_picture.specs.declared.mark.Mark.TheVariants.{Plain, Hidden}
use Rattle.edi_drawing.specs.Marked.{first_mark, first_marks}
use Rattle.edi_drawing.specs.Tints.{first_tint}
use Rattle.edi_report.proofs.EachPlace.{one_value_more}
use Rattle.edi_drawing.proofs.Touched.{value_at, values_long}
use Rattle.edi_drawing.proofs.tints.first_tints.Goals as goal

pub bounds-marks-place : goal.bounds-marks-place
bounds-marks-place c =
    let n = length c.args.pair.now.first.accepted.list in
    let less : c.loop-place.place < n = subst (λ (m : ℕ). c.loop-place.place < m) (c.len-place-end.ensures ∙ ap (λ (p : PlanData). length p.list) c.plan-2.ensures) c.loop-place-test.true in
    subst (λ (m : ℕ). c.loop-place.place < m) (sym (values_long (first_mark c.args.pair.now.unchanged c.args.pair.now.became) n c.args.marks.now c.requires.marks)) less

pub is_tinted-requires-clause-mark : goal.is_tinted-requires-clause-mark
is_tinted-requires-clause-mark c =
    let n = length c.args.pair.now.first.accepted.list in
    let less : c.loop-place.place < n = subst (λ (m : ℕ). c.loop-place.place < m) (c.len-place-end.ensures ∙ ap (λ (p : PlanData). length p.list) c.plan-2.ensures) c.loop-place-test.true in
    let mark = first_mark c.args.pair.now.unchanged c.args.pair.now.became in
    value_at mark n c.loop-place.place Plain c.args.marks.now c.requires.marks less ∙ sym (value_at mark n c.loop-place.place Hidden (first_marks c.args.pair.now) refl less)

pub loop-place-preserved : goal.loop-place-preserved
loop-place-preserved c =
    one_value_more (first_tint c.args.pair.now) c.loop-place.place c.loop-place.tints.items c.push.new.self.items c.is_tinted.result c.loop-place.invariant c.is_tinted.ensures c.in_ok-push.ensures.items
