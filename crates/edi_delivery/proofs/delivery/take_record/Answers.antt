use Rattle.std.proofs.Common.{sym, ◌∙◌}
use Rattle.std.proofs.lemmas.Result.{err_from_is_err_and}
use Rattle.edi_line.specs.ZoneData.{entries}
use Rattle.edi_delivery.proofs.LotSteps.{if_rule, err_of}
use Rattle.edi_delivery.proofs.Read.{support_taken, own_least, take_least, lot_taken, ok_taken}
use Rattle.edi_delivery.proofs.delivery.take_record.Goals as goal

pub returns-then-has_type-clause-taken : goal.returns-then-has_type-clause-taken
returns-then-has_type-clause-taken c = λ before h. support_taken before (entries c.args.group.now) c.args.lots.now.lots.items (sym c.has_type.ensures ∙ c.if-has_type.true) h

pub returns-in_err-lot-clause-least : goal.returns-in_err-lot-clause-least
returns-in_err-lot-clause-least c =
    let p = err_from_is_err_and c.from_residual.result c.from_residual.ensures.1 in
    rw (p.1, p.2) (if_rule _ _ c.in_err-lot.field-0.0 c.in_err-lot.ensures.least
    (λ rule e before h. own_least before (entries c.args.group.now) c.args.lots.now.lots.items h (sym c.has_type-2.ensures ∙ c.if-not-has_type.false) rule e))

pub returns-clause-taken : goal.returns-clause-taken
returns-clause-taken c =
    ok_taken c.take.result _ _ _ c.take.ensures.sound c.take.ensures.more
    (λ sound more before h. lot_taken before (entries c.args.group.now) c.args.lots.now.lots.items h (sym c.has_type-2.ensures ∙ c.if-not-has_type.false) c.in_ok-lot.lot c.in_ok-lot.ensures.states c.in_ok-lot.ensures.sound
    c.take.new.self.lots.items sound more)

pub returns-clause-least : goal.returns-clause-least
returns-clause-least c =
    err_of c.take.result _ _ c.take.ensures.least
    (λ rule e before h. take_least before (entries c.args.group.now) c.args.lots.now.lots.items h (sym c.has_type-2.ensures ∙ c.if-not-has_type.false) c.in_ok-lot.lot c.in_ok-lot.ensures.states c.in_ok-lot.ensures.sound rule e)
