use Rattle.std.proofs.Common.{◌↔◌, IsTrue, List, subst}
use Rattle.std.specs.List.{AllByRecursion}
use Rattle.edi_plan.specs.Plans.{record_at}
use Rattle.edi_plan.specs.declared.record.PlanEnd.{PlanEnd}
use Rattle.edi_matching.specs.Matchings.{IsMatched}
use Rattle.edi_matching.specs.inner.Proposals.{ProposedMatching}
use Rattle.edi_matching.proofs.record.Proposed.has_matched_ends.Goals as goal

pub returns : goal.returns
returns c =
    let to = c.self.inside.to.now in
    subst (λ (m : ProposedMatching). IsTrue c.all_matched.result ↔ AllByRecursion (λ e. IsMatched m.to e.target) (record_at m.plan c.args.place).ends) c.self.view_is
    (subst (λ (ends : List PlanEnd). IsTrue c.all_matched.result ↔ AllByRecursion (λ e. IsMatched to e.target) ends) c.ends.ensures c.all_matched.ensures)
