use Rattle.std.proofs.Common.{◌≡◌, ◌+◌, ◌++◌, ◌∷◌, [], take, sym, ap, subst, ◌∙◌}
use Rattle.std.proofs.lemmas.List.{map-append, take_more}
use Rattle.edi_line.specs.ZoneData.{entry, entries}
use Rattle.edi_line.specs.inner.Groups.{HandedZones, IsStateOf, KeepsHanded, with_zone, with_zones}
use Rattle.edi_line.proofs.HandedZones.{zones_behind}
use Rattle.edi_line.proofs.groups.Handing.hand_all_on.Goals as goal

pub loop-zone-preserved : goal.loop-zone-preserved
loop-zone-preserved g c =
    let zones = c.args.zones.now in
    let i = c.loop-zone.zone-index in
    let zone = c.zone-item.result in
    let so_far = entries (take i zones) in
    let more : entries (take (i + 1) zones) ≡ so_far ++ entry zone ∷ [] =
    ap entries (take_more zones i zone c.loop-zone-test.true) ∙ map-append entry (take i zones) _ ∙ ap (λ z. so_far ++ entry z ∷ []) (sym c.zone-item.is) in
    let on : (s : HandedZones) → with_zones s (entries (take (i + 1) zones)) ≡ with_zone (entry zone) (with_zones s so_far) =
    (λ s. ap (with_zones s) more ∙ zones_behind s so_far (entry zone ∷ [])) in
    record {
      state = λ s is. subst (λ t. IsStateOf t c.hand_on.new.self) (sym (on s)) (c.in_ok-hand_on.ensures.state (with_zones s so_far) (c.loop-zone.invariant.state s is));
      keeps = λ s groups is held. subst (KeepsHanded (g.O.GroupOut.Holds c.hand_on.new.out) groups) (sym (on s))
          (c.in_ok-hand_on.ensures.keeps (with_zones s so_far) groups (c.loop-zone.invariant.state s is) (c.loop-zone.invariant.keeps s groups is held));
    }
