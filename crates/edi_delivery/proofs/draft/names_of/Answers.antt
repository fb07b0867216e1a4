use Rattle.std.proofs.lemmas.Result.{err_from_is_err_and}
use Rattle.edi_delivery.proofs.LotSteps.{if_rule, unsafe_at}
use Rattle.edi_delivery.proofs.draft.names_of.Goals as goal

pub returns-in_err-name_of-clause-not_safe : goal.returns-in_err-name_of-clause-not_safe
returns-in_err-name_of-clause-not_safe c =
    let p = err_from_is_err_and c.from_residual.result c.from_residual.ensures.1 in
    rw (p.1, p.2) (if_rule _ _ c.in_err-name_of.field-0.0 c.in_err-name_of.ensures.not_safe
    (λ rule h. (h.0, unsafe_at c.args.texts.now c.loop-text.text-index _ c.loop-text-test.true h.1)))
