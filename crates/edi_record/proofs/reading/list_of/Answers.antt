use Rattle.std.proofs.Common.{◌≡◌, ◌∙◌, ◌+◌, length, drop, sym, ap, arith, length-drop}
use Rattle.std.proofs.lemmas.List.{drop-drop}
use Rattle.edi_line.specs.ZoneData.{entry, entries}
use Rattle.edi_line.specs.Zones.{groups_of}
use Rattle.edi_record.specs.inner.RecordParts.{whole}
use Rattle.edi_record.proofs.ListRead.{one_more, moved, refusal_at, all_unbroken, few_in_all}
use Rattle.edi_record.proofs.Loops.{no_zone}
use Rattle.edi_record.proofs.reading.list_of.Goals as goal

pub loop-zone-preserved-in-Ok : goal.loop-zone-preserved-in-Ok
loop-zone-preserved-in-Ok c =
    let zones = entries c.args.zones.now in
    let zone = entry c.in-Some.zone.now in
    let behind = c.in-Some.behind.now in
    let here = c.in-Some.ensures in
    let long = ap length here.2 in
    let left : drop c.in-Ok.own behind ≡ drop (c.loop-zone.at + 1 + c.in-Ok.own) c.args.zones.now = ap (drop c.in-Ok.own) here.2 ∙ drop-drop c.in-Ok.own (c.loop-zone.at + 1) c.args.zones.now in
    record {
      within = omega (arith, c.in-Ok.ensures.within, long, length-drop (c.loop-zone.at + 1) c.args.zones.now, here.0);
      so_far =
          moved zones (entries behind) (entries (drop (c.loop-zone.at + 1 + c.in-Ok.own) c.args.zones.now)) c.push.new.self
          (one_more zones (entries (drop c.loop-zone.at c.args.zones.now)) c.loop-zone.list c.push.new.self zone (entries behind) (whole c.in-Ok.record c.record_of.new.parts) c.loop-zone.invariant.so_far here.1 (sym c.eq.ensures ∙ c.if-eq.true)
          c.in-Ok.ensures.states c.in-Ok.ensures.shape c.in-Ok.ensures.sound c.in_ok-push-in-Ok.ensures.records)
          (ap (λ zs. groups_of (entries zs)) (sym left) ∙ c.in-Ok.ensures.left);
    }

pub returns-in-Err-clause-least : goal.returns-in-Err-clause-least
returns-in-Err-clause-least c =
    refusal_at (entries c.args.zones.now) (entries (drop c.loop-zone.at c.args.zones.now)) c.loop-zone.list (entry c.in-Some.zone.now) (entries c.in-Some.behind.now) c.in-Err.fault (c.len.result + 1) c.at.result c.loop-zone.invariant.so_far
    c.in-Some.ensures.1 (sym c.eq.ensures ∙ c.if-eq.true) (omega (arith, c.len.ensures.len, c.len.ensures.few)) c.at.ensures c.in-Err.ensures.least

pub returns-clause-few : goal.returns-clause-few
returns-clause-few c = few_in_all _ _ _ c.loop-zone.invariant.so_far (no_zone c.args.zones.now c.loop-zone.at c.in_default.ensures) c.requires.few

pub returns-clause-sound : goal.returns-clause-sound
returns-clause-sound c = all_unbroken _ _ _ c.loop-zone.invariant.so_far (no_zone c.args.zones.now c.loop-zone.at c.in_default.ensures)
