use Rattle.std.proofs.Common.{◌∙◌, ◌++◌, List, ℕ, ap₂, subst}
use Rattle.edi_line.specs.ZoneData.{entries}
use Rattle.edi_line.specs.declared.zone.Zone.{Zone}
use Rattle.edi_explain.specs.Refusals.{IsEarlierRowIfAny}
use Rattle.edi_explain.specs.inner.Found.{AreFound}
use Rattle.edi_explain.proofs.explained.explain_row.Goals as goal

pub returns : goal.returns
returns c =
    let zones = entries c.in_ok-zones.zones.items in
    let read = c.in_ok-zones.ensures in
    let rule = c.args.rule in
    let at = c.args.at in
    let earlier = c.earlier_row-earlier.result in
    let row = subst (λ n. IsEarlierRowIfAny zones rule n earlier) c.saturating_sub.ensures
    (subst (λ (zs : List Zone). IsEarlierRowIfAny (entries zs) rule c.saturating_sub.result earlier) c.deref.ensures.value c.earlier_row-earlier.ensures) in
    let found = subst (λ (zs : List Zone). AreFound (entries zs) at earlier c.records_in-records.result) c.deref-2.ensures.value c.records_in-records.ensures in
    let place = c.in_ok-lines.ensures zones at earlier found in
    let zone = c.in_ok-zone.ensures zones at earlier found in (
      place.0,
      place.1,
      c.in_ok-zone.zone.items,
      place.2,
      (zones, earlier, read, row, place.3),
      (zones, read, zone),
      c.in_ok-extend_from_slice.ensures.items ∙ ap₂ (λ (xs ys : List ℕ). xs ++ ys) place.4 c.deref-3.ensures.value,
    )
