use Rattle.std.proofs.Common.{rules, subst}
use Rattle.edicad_c.proofs.HeldSteps.{given_means}
use Rattle.edicad_c.specs.Held.{in_box}
use Rattle.edicad_c.specs.Sheets.{IsCanonicalFile}
use Rattle.edicad_c.proofs.sheets.edicad_canonical.Goals as goal

pub returns-clause-answer : goal.returns-clause-answer
returns-clause-answer c =
    given_means _ (λ s held answer. IsCanonicalFile s c.args.sheet.now held answer) c.args.schema.now.held c.give_under.new.handle.held c.give_under.result c.give_under.ensures.answer
    (λ s given made. subst (λ t. IsCanonicalFile t c.args.sheet.now (in_box given.content) given.answer) made.2 (search rules))
