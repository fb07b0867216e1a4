use Rattle.std.proofs.Common.{◌∙◌, ◌<◌, arith, sym, ap, length, subst}
use Rattle.std.proofs.lemmas.List.{get_or_read}
use Rattle.edi_schema.specs.ByRole.{of_role, no_values}
use Rattle.edi_plan.specs.Plans.{PlanData, IsPlace}
use Rattle.edi_plan.specs.Sides.{IsSideIfAny}
use Rattle.edi_plan.specs.inner.SideTable.{side_at}
use Rattle.edi_plan.proofs.plan.Plan.side.Goals as goal

pub returns : goal.returns
returns c =
    let place = c.args.place in
    let there = subst (λ (p : PlanData). IsPlace p place) (sym c.self.view_is) c.requires in
    let within : place < length c.as_slice.result.now = omega (arith, there, c.self.invariant.0.sides.long, ap length c.as_slice.ensures) in
    let read = get_or_read c.as_slice.result.now place c.index-as_slice-place.result within c.index-as_slice-place.is no_values in
    subst (IsSideIfAny c.args.self.now place c.args.role) (sym (c.of.ensures ∙ (ap (λ s. of_role s c.args.role) read ∙ ap (λ t. side_at t place c.args.role) c.as_slice.ensures)))
    (subst (λ (p : PlanData). IsSideIfAny p place c.args.role (side_at c.self.inside.sides place c.args.role)) c.self.view_is (c.self.invariant.0.sides.each place c.args.role))
