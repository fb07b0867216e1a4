use Rattle.std.proofs.Common.{◌≡◌, ℕ, Option, Some, None, IfSome, get_or, subst, sym}
use Rattle.edi_plan.specs.Plans.{IsPlace}
use Rattle.edi_report.specs.Reports.{Report}
use Rattle.edi_objects.proofs.marks.became_of.Goals as goal

went : (r : Report) (i : ℕ) → ((j : ℕ) → get_or r.became i None ≡ Some j → IsPlace r.second.accepted j) → (found : Option ℕ) → found ≡ get_or r.became i None → IfSome found (IsPlace r.second.accepted)
went r i within None is = tt
went r i within (Some j) is = within j (sym is)

pub returns-clause-within : goal.returns-clause-within
returns-clause-within c =
    let inside = c.report.inside in
    let r : Report = record { first = inside.first.now; second = inside.second.now; unchanged = inside.unchanged.now; became = inside.became.now; parts = inside.parts.now } in
    subst (λ (x : Report). IfSome c.target_at.result (IsPlace x.second.accepted)) c.report.view_is
    (went r c.args.place (λ j. c.report.invariant.0.within c.args.place j) c.target_at.result c.target_at.ensures)
