use Rattle.edi_line.specs.ZoneData.{entries}
use Rattle.edi_delivery.proofs.LotSteps.{err_of, least_708}
use Rattle.edi_delivery.proofs.draft.lot_of.Goals as goal

pub returns-clause-least : goal.returns-clause-least
returns-clause-least c =
    err_of c.lot.result _ _ c.lot.ensures.not_safe
    (λ rule h. least_708 (entries c.args.group.now) c.in_ok-text.text.now c.in_ok-draft.draft rule h.0 c.in_ok-text.ensures.only c.in_ok-name.ensures.safe c.in_ok-draft.ensures.draft c.in_ok-draft.ensures.sound h.1)
