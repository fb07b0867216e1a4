use Rattle.std.proofs.Common.{rules, subst}
use Rattle.edicad_c.proofs.HeldSteps.{given_means}
use Rattle.edicad_c.specs.Held.{in_box}
use Rattle.edicad_c.specs.Verifications.{IsVerification}
use Rattle.edicad_c.proofs.pairings.edicad_verify.Goals as goal

pub returns-clause-answer : goal.returns-clause-answer
returns-clause-answer c =
    given_means _ (λ s held answer. IsVerification s c.args.first.now c.args.second.now c.args.pairing.now c.args.name.now held answer) c.args.schema.now.held c.give_under.new.handle.held c.give_under.result c.give_under.ensures.answer
    (λ s given made. subst (λ t. IsVerification t c.args.first.now c.args.second.now c.args.pairing.now c.args.name.now (in_box given.content) given.answer) made.2 (search rules))
