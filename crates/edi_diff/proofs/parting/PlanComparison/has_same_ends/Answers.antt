use Rattle.std.proofs.Common.{◌≡◌, ◌↔◌, IfOk, IsTrue, subst}
use Rattle.edi_compare.specs.declared.uncarried.RecordPart.TheVariants.{Ends}
use Rattle.edi_compare.specs.inner.Checking.{AgreeAt}
use Rattle.edi_matching.specs.Matchings.{targets_of}
use Rattle.edi_diff.specs.inner.Comparisons.{Comparison}
use Rattle.edi_diff.proofs.PartsReported.{ends_known, ends_left}
use Rattle.edi_diff.proofs.parting.PlanComparison.has_same_ends.Goals as goal

pub returns-then-not-has_matched_ends : goal.returns-then-not-has_matched_ends
returns-then-not-has_matched_ends c =
    ends_left c.args.self.now c.args.place c.args.target c.has_matched_ends.result c.if-not-has_matched_ends.true c.has_matched_ends.ensures

pub returns : goal.returns
returns c =
    let targeted = subst (λ (m : Comparison). m.carried.to ≡ targets_of m.to) c.self.view_is c.self.invariant.targeted in
    ends_known c.args.self.now c.args.place c.args.target targeted (c.has_matched_ends.ensures.0 c.if-not-has_matched_ends.false) c.agrees_in.result
    (subst (λ (m : Comparison). IfOk c.agrees_in.result (λ answer. IsTrue answer ↔ AgreeAt m.carried c.args.place c.args.target Ends)) c.self.view_is c.agrees_in.ensures)
