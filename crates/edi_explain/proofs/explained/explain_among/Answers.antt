use Rattle.std.proofs.Common.{◌∙◌, ◌++◌, List, ℕ, ap, ap₂}
use Rattle.edi_line.specs.ZoneData.{entries}
use Rattle.edi_explain.proofs.explained.explain_among.Goals as goal

pub returns : goal.returns
returns c =
    let b = c.args.file.now.bytes.now in
    let zones = entries c.args.zones.now in
    let read = c.requires.zones in
    let at = c.args.at in
    let earlier = c.args.found.now.earlier in
    let found = c.records_in-records.ensures in
    let place = c.in_ok-lines.ensures zones at earlier found in
    let zone = c.in_ok-zone.ensures at found in
    let node = c.in_ok-node.ensures b read in
    let lines = c.in_ok-lines.lines.items in (
      lines,
      c.in_ok-zone.zone.items,
      c.in_ok-node.node.items,
      (place.0, place.1, place.2, (zones, earlier, read, c.requires.earlier, place.3), place.4),
      (zones, earlier, read, c.requires.earlier, zone),
      (c.args.found.now.node, c.requires.node, node),
      c.in_ok-extend_from_slice-2.ensures.items ∙ ap₂ (λ (xs ys : List ℕ). xs ++ ys)
          (c.in_ok-extend_from_slice.ensures.items ∙ ap (λ (xs : List ℕ). lines ++ xs) c.deref.ensures.value) c.deref-2.ensures.value,
    )
