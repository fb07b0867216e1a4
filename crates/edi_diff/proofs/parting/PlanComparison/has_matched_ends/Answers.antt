use Rattle.std.proofs.Common.{◌≡◌, ◌↔◌, ℕ, IsTrue, List, Option, subst}
use Rattle.std.specs.List.{AllByRecursion}
use Rattle.edi_plan.specs.Plans.{record_at}
use Rattle.edi_plan.specs.declared.record.PlanEnd.{PlanEnd}
use Rattle.edi_matching.specs.Matchings.{IsMatched}
use Rattle.edi_diff.specs.declared.parting.PlanComparison.TheInside.{Inside}
use Rattle.edi_diff.specs.inner.Comparisons.{Comparison}
use Rattle.edi_diff.proofs.parting.PlanComparison.has_matched_ends.Goals as goal

pub returns : goal.returns
returns c =
    subst (λ (m : Comparison). IsTrue c.all_matched.result ↔ AllMatched m.to (record_at m.carried.plan c.args.place).ends) c.self.view_is
    (subst (λ (x : Inside). IsTrue c.all_matched.result ↔ AllMatched x.to.now (record_at x.carrier.plan c.args.place).ends) c.self-inside.view_is
    (of_those _ c.ends.result.now _ c.ends.ensures c.all_matched.ensures))
  where
    AllMatched : List (Option ℕ) → List PlanEnd → Type 0
    AllMatched to ends = AllByRecursion (λ e. IsMatched to e.target) ends

    of_those : (to : List (Option ℕ)) (ends others : List PlanEnd) → ends ≡ others → IsTrue c.all_matched.result ↔ AllMatched to ends
        → IsTrue c.all_matched.result ↔ AllMatched to others
    of_those to ends others same known = subst (λ (es : List PlanEnd). IsTrue c.all_matched.result ↔ AllMatched to es) same known
