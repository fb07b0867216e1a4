use Rattle.std.proofs.Common.{◌≡◌, ◌∙◌, true, codes, sym, subst, arith}
use Rattle.std.proofs.lemmas.List.{length-map}
use Rattle.std.proofs.lemmas.Option.{slice_get_within}
use Rattle.edi_line.specs.ZoneData.{ZoneData, entries, entry, has_code}
use Rattle.edi_explain.specs.AstrayZones.{IsLostEndAt, NamesNoElement}
use Rattle.edi_plan.proofs.Leasts.{least_here, none_here}
use Rattle.edi_explain.proofs.Passing.{same_entry, zone_there}
use Rattle.edi_explain.proofs.lost_ends.first_lost_end.Goals as goal

pub returns-then-branch : goal.returns-then-branch
returns-then-branch c = λ groups h.
    let zones = c.args.group.now in
    let place = c.loop-place.place in
    let zone = c.index-group-place in
    let same = c.index-group-place-then-branch in
    let lost = (c.in_ok-is_lost_end.ensures groups h).0 c.if-branch.true in (
      place,
      least_here (IsLostEndAt groups (entries zones)) place (c.loop-place.invariant groups h)
          (entry zone.result, zone_there zones place zone.result c.loop-place-test.true zone.is, lost.0, lost.1),
      zone_there zones place same.result c.loop-place-test.true same.is,
    )

pub loop-place-preserved : goal.loop-place-preserved
loop-place-preserved c = λ groups h.
    let zones = c.args.group.now in
    let place = c.loop-place.place in
    let zone = c.index-group-place in
    none_here (IsLostEndAt groups (entries zones)) place (c.loop-place.invariant groups h)
    (λ k. let same = same_entry k.0 (entry zone.result) (sym k.1 ∙ zone_there zones place zone.result c.loop-place-test.true zone.is) in
    let t = (c.in_ok-is_lost_end.ensures groups h).1 (subst (λ (x : ZoneData). (has_code (codes "FTP") x ≡ true) × NamesNoElement groups x.value) same (k.2, k.3)) in let f = c.if-branch.false in cc)

pub returns : goal.returns
returns c = λ groups h z k.
    let zones = c.args.group.now in
    c.loop-place.invariant groups h k.0 (omega (arith, slice_get_within (entries zones) k.0 z k.2, length-map zones entry, c.loop-place-test.false)) k.1.is
