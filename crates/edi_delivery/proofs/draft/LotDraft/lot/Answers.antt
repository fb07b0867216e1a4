use Rattle.std.proofs.lemmas.Result.{err_from_is_err_and}
use Rattle.edi_delivery.proofs.LotSteps.{if_rule, unsafe_quality, unsafe_vecs}
use Rattle.edi_delivery.proofs.draft.LotDraft.lot.Goals as goal

pub returns-in_err-name_if_any-3-clause-not_safe : goal.returns-in_err-name_if_any-3-clause-not_safe
returns-in_err-name_if_any-3-clause-not_safe c =
    let p = err_from_is_err_and c.from_residual-in_err-name_if_any-3.result c.from_residual-in_err-name_if_any-3.ensures.1 in
    rw (p.1, p.2) (if_rule _ _ c.in_err-name_if_any-3.field-0.0 c.in_err-name_if_any-3.ensures.not_safe
    (λ rule h. (h.0, unsafe_quality c.args.self.now h.1)))

pub returns-in_err-names_of-clause-not_safe : goal.returns-in_err-names_of-clause-not_safe
returns-in_err-names_of-clause-not_safe c =
    let p = err_from_is_err_and c.from_residual-in_err-names_of.result c.from_residual-in_err-names_of.ensures.1 in
    rw (p.1, p.2) (if_rule _ _ c.in_err-names_of.field-0.0 c.in_err-names_of.ensures.not_safe
    (λ rule h. (h.0, unsafe_vecs c.args.self.now c.deref.result.now c.deref.ensures.value h.1)))
