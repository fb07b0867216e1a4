use Rattle.std.proofs.Common.{◌≡◌, Bor, ℕ, suc, List, Option, option_map, subst, inr}
use Rattle.std.proofs.lemmas.Result.{IfOk-weaker}
use Rattle.edi_line.specs.ZoneData.{entries}
use Rattle.edi_line.specs.Zones.{groups_of}
use Rattle.edi_line.specs.declared.zone.Zone.{Zone}
use Rattle.edi_explain.specs.AstrayZones.{IsZoneOfRecord, IsZoneOfSheet}
use Rattle.edi_explain.specs.inner.Found.{AreFound, group_numbered}
use Rattle.edi_explain.proofs.ZoneFound.{line_as, no_sheet_zone, sheet_zone, zone_sheet}
use Rattle.edi_explain.proofs.zone_lines.explain_zone_of_record.Goals as goal

pub returns-in-Some : goal.returns-in-Some
returns-in-Some c =
    let s = c.args.schema.now in
    let rule = c.args.rule in
    let earlier = c.args.earlier in
    let records = c.args.records.now in
    let group = entries c.in-Some.group.now in
    let end : Option (List ℕ) = option_map (λ e. e.now) c.first_end-end.result in
    IfOk-weaker c.line_of_record.result _ _ (λ lines h zones number found.
    let e = subst (λ (r : Option (Bor (List Zone))). option_map (λ g. entries g.now) r ≡ group_numbered (groups_of zones) number) c.in-Some.is found.here in
    let ends = λ (place : ℕ) (n : number ≡ suc place). c.first_end-end.ensures zones place (subst (λ (m : ℕ). AreFound zones m earlier records) n found) in
    line_as (IsZoneOfRecord s group end rule) (IsZoneOfSheet s zones earlier rule number) c.args.name.now rule lines.items
    (sheet_zone zones rule number group e c.requires s earlier end ends) (zone_sheet zones rule number group e c.requires s earlier end ends) h) c.line_of_record.ensures

pub returns-in-None : goal.returns-in-None
returns-in-None c = λ zones number found.
    let e = subst (λ (r : Option (Bor (List Zone))). option_map (λ g. entries g.now) r ≡ group_numbered (groups_of zones) number) c.in-None.is found.here in
    inr (no_sheet_zone zones c.args.rule number e c.args.schema.now c.args.earlier, c.new.ensures.items)
