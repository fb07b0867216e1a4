use Rattle.std.proofs.Common.{◌≡◌, Bor, List, Option, option_map, subst, inr}
use Rattle.std.proofs.lemmas.Result.{IfOk-weaker}
use Rattle.edi_line.specs.ZoneData.{entries}
use Rattle.edi_line.specs.Zones.{groups_of}
use Rattle.edi_line.specs.declared.zone.Zone.{Zone}
use Rattle.edi_explain.specs.AstrayZones.{IsZoneOfSheet}
use Rattle.edi_explain.specs.inner.LostEnds.{IsLostEndOf}
use Rattle.edi_explain.specs.inner.Found.{group_numbered}
use Rattle.edi_explain.proofs.ZoneFound.{line_as, lost_zone, no_sheet_zone, zone_lost}
use Rattle.edi_explain.proofs.zone_lines.explain_lost_end.Goals as goal

pub returns-in-Some : goal.returns-in-Some
returns-in-Some c =
    let name = c.args.name.now in
    let zones = entries c.args.zones.now in
    let group = entries c.in-Some.group.now in
    IfOk-weaker c.line_of_lost_end.result _ _ (λ lines h s number earlier found.
    let e = subst (λ (r : Option (Bor (List Zone))). option_map (λ g. entries g.now) r ≡ group_numbered (groups_of zones) number) c.in-Some.is found.here in
    line_as (IsLostEndOf (groups_of zones) group) (IsZoneOfSheet s zones earlier 305 number) name 305 lines.items
    (lost_zone zones number group e s earlier) (zone_lost zones number group e s earlier) h) c.line_of_lost_end.ensures

pub returns-in-None : goal.returns-in-None
returns-in-None c = λ s number earlier found.
    let zones = entries c.args.zones.now in
    let e = subst (λ (r : Option (Bor (List Zone))). option_map (λ g. entries g.now) r ≡ group_numbered (groups_of zones) number) c.in-None.is found.here in
    inr (no_sheet_zone zones 305 number e s earlier, c.new.ensures.items)
