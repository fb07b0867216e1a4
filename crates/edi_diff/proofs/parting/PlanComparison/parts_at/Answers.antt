use Rattle.std.proofs.Common.{◌∙◌, None, get_or, subst, sym}
use Rattle.edi_line.proofs.Truths.{some_is}
use Rattle.edi_matching.specs.Matchings.{IsMatched}
use Rattle.edi_diff.specs.inner.Comparisons.{Comparison}
use Rattle.edi_diff.proofs.parting.PlanComparison.parts_at.Goals as goal

pub returns-then-is_some : goal.returns-then-is_some
returns-then-is_some c = λ j free goes.
    absurd (free (subst (λ (m : Comparison). IsMatched m.unchanged c.args.place) c.self.view_is
    (some_is (get_or c.self.inside.unchanged.now c.args.place None) (sym c.is_some.ensures ∙ c.if-is_some.true))))
