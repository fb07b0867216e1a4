use Rattle.std.proofs.Common.{ℕ, List, Option, subst, sym}
use Rattle.edi_plan.specs.Plans.{PlanData}
use Rattle.edi_compare.specs.Laws.{IsAcceptedPlan}
use Rattle.edi_matching.specs.Matchings.{IsMatched}
use Rattle.edi_matching.proofs.growing.grow.Goals as goal

pub returns-then-branch-clause-keeps : goal.returns-then-branch-clause-keeps
returns-then-branch-clause-keeps c =
    λ i m. subst (λ (to : List (Option ℕ)). IsMatched to i) c.as_slice.ensures
    (c.matches_all_of.ensures c.if-matches_all_of.true i (subst (λ (to : List (Option ℕ)). IsMatched to i) (sym c.as_slice-2.ensures) m))

pub more_of-requires-clause-accepted : goal.more_of-requires-clause-accepted
more_of-requires-clause-accepted c = subst (λ (p : PlanData). IsAcceptedPlan c.args.schema.now p) (sym c.sound.ensures) c.requires.accepted

pub more_of-requires-clause-other_accepted : goal.more_of-requires-clause-other_accepted
more_of-requires-clause-other_accepted c = subst (λ (p : PlanData). IsAcceptedPlan c.args.schema.now p) (sym c.sound-2.ensures) c.requires.other_accepted
