-- What is handed out is what was given under the schema.
use Rattle.std.proofs.Common.{subst, sym}
use Rattle.edicad_c.proofs.HeldSteps.{given_means}
use Rattle.edicad_c.specs.declared.given.Given.{Given}
use Rattle.edicad_c.specs.Held.{in_box}
use Rattle.edicad_c.specs.Explains.{IsExplanation}
use Rattle.edicad_c.proofs.explains.edicad_explain.Goals as goal

pub returns-clause-answer : goal.returns-clause-answer
returns-clause-answer c =
    given_means _ (λ s held answer. IsExplanation s c.args.sheet.now c.args.name.now held answer) c.args.schema.now.held c.give_under.new.handle.held c.give_under.result c.give_under.ensures.answer
    (λ s given made. let called = made.1.said-raw.1.1.1.1.1 in
    subst (λ t. IsExplanation t c.args.sheet.now c.args.name.now (in_box given.content) given.answer) made.2
    (subst (λ (g : Given). IsExplanation made.0.now c.args.sheet.now c.args.name.now (in_box g.content) g.answer) (sym called.1) called.0.ensures))
