use Rattle.std.proofs.Common.{rules, subst}
use Rattle.edicad_c.proofs.HeldSteps.{answer_means}
use Rattle.edicad_c.specs.Sheets.{IsCheck}
use Rattle.edicad_c.proofs.sheets.edicad_check.Goals as goal

pub returns-clause-answer : goal.returns-clause-answer
returns-clause-answer c =
    answer_means _ (λ s answer. IsCheck s c.args.sheet.now answer) c.args.schema.now.held c.answer_under.result c.answer_under.ensures.answer (λ s made. subst (λ t. IsCheck t c.args.sheet.now c.answer_under.result) made.2 (search rules))
