use Rattle.std.proofs.Common.{◌<◌, ◌∙◌, ◌∷◌, [], ℕ, false, ap, length, map, subst, sym}
use Rattle.std.proofs.lemmas.List.{map-append}
use Rattle.std.specs.Global.{Vec}
use Rattle.edi_plan.specs.Plans.{PlanData}
use Rattle.edi_drawing.specs.Drawn.{first_label}
use Rattle.edi_drawing.specs.Tints.{first_tint}
use Rattle.edi_report.proofs.EachPlace.{one_value_more}
use Rattle.edi_drawing.proofs.Touched.{value_at, values_long}
use Rattle.edi_drawing.proofs.labels.first_labels.Goals as goal

pub bounds-tints-place : goal.bounds-tints-place
bounds-tints-place c =
    let n = length c.args.pair.now.first.accepted.list in
    let less : c.loop-place.place < n = subst (λ (m : ℕ). c.loop-place.place < m) (c.len-place-end.ensures ∙ ap (λ (p : PlanData). length p.list) c.plan-2.ensures) c.loop-place-test.true in
    subst (λ (m : ℕ). c.loop-place.place < m) (sym (values_long (first_tint c.args.pair.now) n c.args.tints.now c.requires.tints)) less

pub first_label-requires-clause-tinted : goal.first_label-requires-clause-tinted
first_label-requires-clause-tinted c =
    let n = length c.args.pair.now.first.accepted.list in
    let less : c.loop-place.place < n = subst (λ (m : ℕ). c.loop-place.place < m) (c.len-place-end.ensures ∙ ap (λ (p : PlanData). length p.list) c.plan-2.ensures) c.loop-place-test.true in
    value_at (first_tint c.args.pair.now) n c.loop-place.place false c.args.tints.now c.requires.tints less

pub loop-place-preserved : goal.loop-place-preserved
loop-place-preserved c =
    one_value_more (first_label c.args.schema.now c.args.pair.now) c.loop-place.place (map (λ (l : Vec ℕ). l.items) c.loop-place.labels.items) (map (λ (l : Vec ℕ). l.items) c.push.new.self.items)
    c.in_ok-first_label.field-0.items c.loop-place.invariant c.in_ok-first_label.ensures
    (ap (map (λ (l : Vec ℕ). l.items)) c.in_ok-push.ensures.items ∙ map-append (λ (l : Vec ℕ). l.items) c.loop-place.labels.items (c.in_ok-first_label.field-0 ∷ []))
