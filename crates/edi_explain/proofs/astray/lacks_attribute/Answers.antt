use Rattle.std.proofs.Common.{◌≡◌, ◌∙◌, codes, sym, subst, true}
use Rattle.std.proofs.lemmas.Result.{IfOk-weaker}
use Rattle.edi_line.specs.ZoneData.{entry, has_code}
use Rattle.edi_explain.specs.AstrayZones.{NamesNoAttribute}
use Rattle.edi_explain.proofs.astray.lacks_attribute.Goals as goal

pub returns-then-eq : goal.returns-then-eq
returns-then-eq c =
    let code : has_code (codes "ATP") (entry c.args.zone.now) ≡ true = sym c.eq.ensures ∙ c.if-eq.true in
    let value = c.as_slice.ensures.value in
    let s = c.args.schema.now in
    IfOk-weaker c.names_no_attribute.result _ _ (λ t e. (
      λ i. (code, subst (NamesNoAttribute s) value (e.0 i)),
      λ h. e.1 (subst (NamesNoAttribute s) (sym value) h.1),
    )) c.names_no_attribute.ensures
