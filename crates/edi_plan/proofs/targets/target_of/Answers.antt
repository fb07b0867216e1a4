use Rattle.std.proofs.Common.{◌≡◌, ◌∙◌, ℕ, List, sym, ap, ap₂, subst}
use Rattle.edi_record.specs.Shapes.{kind_code}
use Rattle.edi_record.specs.declared.name.Name.{Name}
use Rattle.edi_plan.specs.inner.Targets.{target_kind, IsTargetIfAny}
use Rattle.edi_plan.specs.PlanOf.{place_named}
use Rattle.edi_plan.proofs.TargetLemmas.{coded, leads_nowhere, leads_to}
use Rattle.edi_plan.proofs.targets.target_of.Goals as goal

pub returns-in_err-kind : goal.returns-in_err-kind
returns-in_err-kind c = subst (IsTargetIfAny c.args.records.now c.args.end.now) (sym c.from_residual.ensures)
    (leads_nowhere c.args.records.now c.args.end.now (ap target_kind (sym c.rty.ensures) ∙ (sym c.kind_coded.ensures ∙ c.in_err-kind.was)))

pub returns : goal.returns
returns c =
    let target : Name = c.args.end.now.target in
    let kind = ap target_kind (sym c.rty.ensures) ∙ (sym c.kind_coded.ensures ∙ c.in_ok-kind.was) in
    let code = coded target.rty c.in_ok-kind.kind kind in
    let spelled : target ≡ record { rty = kind_code c.in_ok-kind.kind; rid = c.rid.result.now } =
    ap₂ (λ (rty rid : List ℕ). record { rty = rty; rid = rid }) code.0 (sym c.rid.ensures) in
    leads_to c.args.records.now c.args.end.now c.in_ok-kind.kind c.in_ok-place.place kind
    (ap (place_named c.args.records.now) spelled ∙ (sym c.place_of.ensures ∙ c.in_ok-place.was))
