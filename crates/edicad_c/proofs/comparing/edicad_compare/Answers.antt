use Rattle.std.proofs.Common.{rules, subst}
use Rattle.edicad_c.proofs.HeldSteps.{answer_means}
use Rattle.edicad_c.specs.Comparisons.{IsComparison}
use Rattle.edicad_c.proofs.comparing.edicad_compare.Goals as goal

pub returns-clause-answer : goal.returns-clause-answer
returns-clause-answer c =
    answer_means _ (λ s answer. IsComparison s c.args.first.now c.args.second.now answer) c.args.schema.now.held c.answer_under.result c.answer_under.ensures.answer (λ s made. subst (λ t. IsComparison t c.args.first.now c.args.second.now c.answer_under.result) made.2 (search rules))
