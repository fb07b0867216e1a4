use Rattle.std.proofs.Common.{None, inl, inr, refl, rules}
use Rattle.edi_line.specs.ZoneData.{entries, entry}
use Rattle.edi_line.specs.Zones.{groups_of}
use Rattle.edi_explain.specs.AstrayZones.{IsFirstLostEnd}
use Rattle.edi_explain.proofs.Straying.{none_of, some_of}
use Rattle.edi_explain.proofs.zone_lines.line_of_lost_end.Goals as goal

pub returns-in_default : goal.returns-in_default
returns-in_default c =
    let groups = groups_of (entries c.args.zones.now) in
    let found = c.in_ok-zone.ensures groups c.in_ok-names.ensures in
    inr (λ z count h. none_of (λ x. IsFirstLostEnd groups (entries c.args.group.now) (entry x.now)) c.in_ok-zone.field-0 c.in_default.is found z h.0, c.new-text.ensures.items)

pub returns : goal.returns
returns c =
    let groups = groups_of (entries c.args.zones.now) in
    let found = c.in_ok-zone.ensures groups c.in_ok-names.ensures in
    let said = c.in_ok-push_line.ensures in
    inl (entry c.in-Some.zone.now, None, said.0, (some_of _ (λ x. IsFirstLostEnd groups (entries c.args.group.now) (entry x.now)) c.in_ok-zone.field-0 c.in-Some.zone c.in-Some.is found, refl), said.1, search rules)
