use Rattle.std.proofs.Common.{◌≡◌, ◌+◌, ◌-◌, length, refl, arith}
use Rattle.std.proofs.lemmas.Result.{on_ok_weaker}
use Rattle.edi_line.proofs.ZoneLists.{done_lengthened, open_lengthened, begun_lengthened}
use Rattle.edi_line.proofs.zone_list.ZoneList.lengthen.Goals as goal

pub returns-in-Some-clause-leaves : goal.returns-in-Some-clause-leaves
returns-in-Some-clause-leaves c =
    let list = c.args.self.now in
    let n = list.zones.len - 1 in
    let last : n + 1 ≡ length list.zones.items = omega (arith, list.zones.ok.0, c.in-Some.ensures.variant.0 refl) in
    on_ok_weaker c.lengthen.result (λ longer. (
      done_lengthened list.is_open list.zones.items n c.lengthen.new.self c.if-not-self.false last,
      begun_lengthened list.is_open list.zones.items n c.in-Some.zone.now c.lengthen.new.self c.args.more.now c.if-not-self.false last c.in-Some.ensures.value longer,
    )) c.lengthen.ensures

pub returns-in-Some-clause-open_zone : goal.returns-in-Some-clause-open_zone
returns-in-Some-clause-open_zone c =
    let list = c.args.self.now in
    let n = list.zones.len - 1 in
    let last : n + 1 ≡ length list.zones.items = omega (arith, list.zones.ok.0, c.in-Some.ensures.variant.0 refl) in
    on_ok_weaker c.lengthen.result (λ longer.
    open_lengthened list.is_open list.zones.items n c.in-Some.zone.now c.lengthen.new.self c.args.more.now c.if-not-self.false last c.in-Some.ensures.value longer) c.lengthen.ensures
