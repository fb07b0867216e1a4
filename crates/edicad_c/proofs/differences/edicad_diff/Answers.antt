use Rattle.std.proofs.Common.{rules, subst}
use Rattle.edicad_c.proofs.HeldSteps.{given_means}
use Rattle.edicad_c.specs.Differences.{IsDifferenceAnswered, form_numbered}
use Rattle.edicad_c.specs.Held.{in_box}
use Rattle.edicad_c.proofs.differences.edicad_diff.Goals as goal

pub returns-clause-answer : goal.returns-clause-answer
returns-clause-answer c =
    given_means _ (λ s held answer. IsDifferenceAnswered s c.args.first.now c.args.second.now (form_numbered c.args.form) held answer) c.args.schema.now.held c.give_under.new.handle.held c.give_under.result c.give_under.ensures.answer
    (λ s given made. subst (λ t. IsDifferenceAnswered t c.args.first.now c.args.second.now (form_numbered c.args.form) (in_box given.content) given.answer) made.2 (search rules))
