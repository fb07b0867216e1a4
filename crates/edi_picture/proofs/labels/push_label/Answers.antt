use Rattle.std.proofs.Common.{◌++◌, ◌∙◌, ap, sym}
use Rattle.std.proofs.lemmas.Result.{on_ok_weaker}
use Rattle.std.specs.List.{flat_map}
use Rattle.edi_plan.specs.Plans.{PlanData, record_at}
use Rattle.edi_picture.specs.Faces.{arcs_round}
use Rattle.edi_picture.proofs.Joined.{round_there}
use Rattle.edi_picture.proofs.LabelTexts.{written}
use Rattle.edi_picture.proofs.labels.push_label.Goals as goal

pub points_of_arcs-requires : goal.points_of_arcs-requires
points_of_arcs-requires c = round_there c.plan.result.now c.args.face c.args.arcs.now (c.requires.arcs ∙ ap (λ (p : PlanData). arcs_round p c.args.face) (sym c.plan.ensures))

pub returns : goal.returns
returns c =
    let p = c.args.sheet.now.plan in
    let points = c.deref.ensures.value ∙ (c.in_ok-points.ensures ∙ (ap (λ (q : PlanData). flat_map (λ a. (record_at q a).points) c.args.arcs.now) c.plan.ensures
    ∙ ap (flat_map (λ a. (record_at p a).points)) c.requires.arcs)) in
    on_ok_weaker c.push_label_amid.result
    (λ e. e ∙ ap (λ t. c.args.text.now.items ++ t)
    (written c.args.frame.now c.args.top c.args.sheet.now c.args.face c.deref.result.now c.label.result.now c.has_label.result c.has_label.ensures c.if-not-has_label.false points c.label.ensures))
    c.push_label_amid.ensures
