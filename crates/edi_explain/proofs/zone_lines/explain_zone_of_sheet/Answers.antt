use Rattle.std.proofs.Common.{ℕ, subst, sym}
use Rattle.std.proofs.lemmas.Result.{IfOk-weaker}
use Rattle.edi_line.specs.ZoneData.{entries}
use Rattle.edi_explain.specs.AstrayZones.{IsZoneOfSheet}
use Rattle.edi_explain.specs.ZoneLines.{IsZoneLine}
use Rattle.edi_explain.proofs.zone_lines.explain_zone_of_sheet.Goals as goal

pub returns-then-rule-eq305 : goal.returns-then-rule-eq305
returns-then-rule-eq305 c =
    let s = c.args.schema.now in
    let earlier = c.args.earlier in
    IfOk-weaker c.explain_lost_end.result _ _ (λ lines h number found.
    subst (λ (r : ℕ). IsZoneLine (IsZoneOfSheet s (entries c.args.zones.now) earlier r number) c.args.name.now r lines.items) (sym c.if-rule-eq305.true)
    (h s number earlier found)) c.explain_lost_end.ensures
