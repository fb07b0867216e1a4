use Rattle.std.proofs.Common.{◌≡◌, ◌∙◌, ℕ, List, IfOk, ap, subst}
use Rattle.edi_outcome.specs.Words.{HasNames, texts}
use Rattle.edi_answers.specs.AnswerForms.{IsReadIn, text_in_form}
use Rattle.edi_answers.proofs.Names.{as_many}
use Rattle.edi_answers.proofs.report.text_by_paths.Goals as goal

pub text_in_form-requires : goal.text_in_form-requires
text_in_form-requires c = subst (HasNames c.args.outcome.now) (as_many c.deref.result.now c.args.paths.now (ap texts c.deref.ensures.value ∙ c.in_ok-names.ensures)) c.requires

pub returns-clause-text : goal.returns-clause-text
returns-clause-text c =
    subst (λ (names : List (List ℕ)). IfOk c.text_in_form.result (λ text. text.items ≡ text_in_form c.args.form c.args.outcome.now names))
    (ap texts c.deref.ensures.value ∙ c.in_ok-names.ensures) c.text_in_form.ensures.text

pub returns-clause-read : goal.returns-clause-read
returns-clause-read c =
    subst (λ (names : List (List ℕ)). IfOk c.text_in_form.result (λ text. IsReadIn c.args.form c.args.outcome.now names text.items))
    (ap texts c.deref.ensures.value ∙ c.in_ok-names.ensures) c.text_in_form.ensures.read
