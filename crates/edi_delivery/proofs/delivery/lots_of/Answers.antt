use Rattle.std.proofs.Common.{◌≡◌, ◌∙◌, length, sym, ap, arith}
use Rattle.std.proofs.lemmas.List.{nil_from_length}
use Rattle.std.proofs.lemmas.Bool.{eqb-true, eqb-false}
use Rattle.edi_line.specs.ZoneData.{entries}
use Rattle.edi_delivery.proofs.Read.{none_read, one_read, refused_there, none_least, all_unbroken}
use Rattle.edi_delivery.proofs.delivery.lots_of.Goals as goal

pub loop-rest-init : goal.loop-rest-init
loop-rest-init c = record {
  noted = c.new-lots.ensures.noted;
  so_far = none_read (entries c.args.zones.now) c.new-lots.result.lots.items c.new-lots.ensures.none;
  fits = omega arith;
}

pub returns-in-Err-clause-least : goal.returns-in-Err-clause-least
returns-in-Err-clause-least c =
    refused_there (entries c.args.zones.now) c.loop-rest.rest.now c.loop-rest.at c.loop-rest.lots.lots.items (entries c.in-Some.group.now) c.in-Err.fault c.at.result
    c.loop-rest.invariant.so_far c.in-Some.ensures c.in-Err.ensures.least c.at.ensures

pub loop-rest-preserved-in_default-take_record : goal.loop-rest-preserved-in_default-take_record
loop-rest-preserved-in_default-take_record c = record {
  noted = c.in_default-take_record.ensures.noted;
  so_far = one_read (entries c.args.zones.now) c.loop-rest.rest.now c.loop-rest.at c.loop-rest.lots.lots.items c.take_record.new.lots.lots.items (entries c.in-Some.group.now)
      c.loop-rest.invariant.so_far c.in-Some.ensures c.in_default-take_record.ensures.taken;
  fits = omega arith;
}

pub returns-then-is_empty-clause-least : goal.returns-then-is_empty-clause-least
returns-then-is_empty-clause-least c =
    let none : length c.into_lots-lots.result.items ≡ 0 = sym c.into_lots-lots.result.ok.0 ∙ eqb-true _ _ (sym c.is_empty.ensures ∙ c.if-is_empty.true) in
    none_least (entries c.args.zones.now) c.loop-rest.rest.now c.loop-rest.at c.loop-rest.lots.lots.items c.in_default.len_below c.loop-rest.invariant.so_far
    (sym c.into_lots-lots.ensures ∙ nil_from_length c.into_lots-lots.result.items none)

pub returns-clause-sound : goal.returns-clause-sound
returns-clause-sound c =
    let some = eqb-false _ _ (sym c.is_empty.ensures ∙ c.if-is_empty.false) in
    all_unbroken (entries c.args.zones.now) c.loop-rest.rest.now c.loop-rest.at c.loop-rest.lots.lots.items c.in_default.len_below c.loop-rest.invariant.so_far
    (omega (arith, some, c.into_lots-lots.result.ok.0, ap length c.into_lots-lots.ensures))
