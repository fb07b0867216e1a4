use Rattle.std.proofs.Common.{◌∙◌, sym, ap, subst}
use Rattle.std.specs.List.{slice_get}
use Rattle.std.proofs.lemmas.Option.{slice_get-get_or}
use Rattle.edi_plan.specs.Plans.{IsPlace}
use Rattle.edi_rank.specs.Labelling.{order_of}
use Rattle.edi_write.specs.inner.LabelledPlans.{LabelledPlanData, AreItsLabels}
use Rattle.edi_line.proofs.EachElement.{each_from_places}
use Rattle.edi_write.proofs.labelled_plan.LabelledPlan.write_kind.Goals as goal

pub write_places-requires-clause-places : goal.write_places-requires-clause-places
write_places-requires-clause-places c =
    let own = subst AreItsLabels c.self.view_is c.self.invariant in
    let labels = own.labels in
    each_from_places (IsPlace c.args.self.now.plan) c.order.result.now 0 (λ i less.
    (labels.orders c.args.kind i _
    (sym (ap (λ ks. slice_get ks i) (c.order.ensures ∙ ap (λ (l : LabelledPlanData). order_of l.labels c.args.kind) c.self.view_is)) ∙ slice_get-get_or c.order.result.now i 0 less)).0)
