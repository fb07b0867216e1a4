use Rattle.std.proofs.Common.{◌++◌, ◌∷◌, ◌∙◌, [], subst, sym}
use Rattle.edi_line.specs.ZoneData.{entry}
use Rattle.edi_explain.specs.inner.Elsewhere.{AreEndsWithStray}
use Rattle.edi_explain.proofs.LinkEnds.{holds_end}
use Rattle.edi_explain.proofs.elsewhere.LinkEnds.take_zone.Goals as goal

pub returns-in_ok-take_end : goal.returns-in_ok-take_end
returns-in_ok-take_end c = λ groups group one held.
    let was = c.args.self.now in
    let zone = entry c.args.zone.now in
    holds_end groups group zone was c.take_end.new.self one c.if-self.true (sym c.eq.ensures ∙ c.if-eq.true) c.in_ok-take_end.ensures.is_link
    (λ ends h. subst (λ text. AreEndsWithStray (ends ++ text ∷ []) c.take_end.new.self) c.as_slice.ensures.value (c.in_ok-take_end.ensures.ends ends h)) held
