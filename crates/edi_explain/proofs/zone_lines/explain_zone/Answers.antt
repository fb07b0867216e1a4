use Rattle.std.proofs.Common.{◌≡◌, Bor, List, Option, option_map, subst, inr}
use Rattle.std.proofs.lemmas.Result.{IfOk-weaker}
use Rattle.edi_line.specs.ZoneData.{entries}
use Rattle.edi_line.specs.Zones.{groups_of}
use Rattle.edi_line.specs.declared.zone.Zone.{Zone}
use Rattle.edi_explain.specs.BreakingZones.{IsBreakingZone, IsBreakingZoneOf}
use Rattle.edi_explain.specs.inner.Found.{group_numbered}
use Rattle.edi_explain.proofs.ZoneFound.{line_as, no_row_zone, row_zone, zone_row}
use Rattle.edi_explain.proofs.zone_lines.explain_zone.Goals as goal

pub returns-in-Some : goal.returns-in-Some
returns-in-Some c =
    let rule = c.args.rule in
    let group = entries c.in-Some.group.now in
    IfOk-weaker c.line_of_row.result _ _ (λ lines h zones number earlier found.
    let e = subst (λ (r : Option (Bor (List Zone))). option_map (λ g. entries g.now) r ≡ group_numbered (groups_of zones) number) c.in-Some.is found.here in
    line_as (IsBreakingZoneOf group rule) (IsBreakingZone zones rule number) c.args.name.now rule lines.items
    (row_zone zones rule number group e) (zone_row zones rule number group e) h) c.line_of_row.ensures

pub returns-in-None : goal.returns-in-None
returns-in-None c = λ zones number earlier found.
    let e = subst (λ (r : Option (Bor (List Zone))). option_map (λ g. entries g.now) r ≡ group_numbered (groups_of zones) number) c.in-None.is found.here in
    inr (no_row_zone zones c.args.rule number e, c.new.ensures.items)
