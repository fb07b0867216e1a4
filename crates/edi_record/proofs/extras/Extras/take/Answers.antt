use Rattle.std.proofs.Common.{◌∙◌, ◌++◌, ◌∷◌, [], refl, sym, ap}
use Rattle.edi_line.specs.ZoneData.{entry}
use Rattle.edi_record.specs.inner.Stored.{kept_extras}
use Rattle.edi_record.proofs.PointsStored.{extra_taken, pointer_met}
use Rattle.edi_record.proofs.extras.Extras.take.Goals as goal

pub returns-then-is_pointer : goal.returns-then-is_pointer
returns-then-is_pointer c = pointer_met (kept_extras c.args.self.now c.args.list.now.items) _ (entry c.args.zone.now) (sym c.is_pointer.ensures ∙ c.if-is_pointer.true) refl

pub returns : goal.returns
returns c =
    extra_taken (kept_extras c.args.self.now c.args.list.now.items) _ (entry c.args.zone.now) (sym c.is_pointer.ensures ∙ c.if-is_pointer.false) refl
    (c.in_ok-push.ensures.items ∙ ap (λ e. c.args.list.now.items ++ e ∷ []) c.in_ok-extra.ensures)
