use Rattle.std.proofs.Common.{◌∙◌, Option, List, ℕ, option_map, sym, subst, arith}
use Rattle.std.proofs.lemmas.List.{length-map}
use Rattle.std.proofs.lemmas.Option.{slice_get_within}
use Rattle.edi_line.specs.ZoneData.{entries, entry}
use Rattle.edi_explain.specs.AstrayZones.{IsAstray, IsAstrayAt}
use Rattle.edi_plan.proofs.Leasts.{least_here, none_here}
use Rattle.edi_explain.proofs.Passing.{same_entry, zone_there}
use Rattle.edi_explain.proofs.astray.first_astray.Goals as goal

pub returns-then-branch : goal.returns-then-branch
returns-then-branch c =
    let zones = c.args.group.now in
    let end : Option (List ℕ) = option_map (λ e. e.now) c.args.end in
    let place = c.loop-place.place in
    let zone = c.index-group-place in
    let same = c.index-group-place-then-branch in (
      place,
      least_here (IsAstrayAt c.args.schema.now end c.args.rule (entries zones)) place c.loop-place.invariant
          (entry zone.result, zone_there zones place zone.result c.loop-place-test.true zone.is, c.in_ok-is_astray.ensures.0 c.if-branch.true),
      zone_there zones place same.result c.loop-place-test.true same.is,
    )

pub loop-place-preserved : goal.loop-place-preserved
loop-place-preserved c =
    let zones = c.args.group.now in
    let end : Option (List ℕ) = option_map (λ e. e.now) c.args.end in
    let place = c.loop-place.place in
    let zone = c.index-group-place in
    none_here (IsAstrayAt c.args.schema.now end c.args.rule (entries zones)) place c.loop-place.invariant
    (λ h. let same = same_entry h.0 (entry zone.result) (sym h.1 ∙ zone_there zones place zone.result c.loop-place-test.true zone.is) in
    let t = c.in_ok-is_astray.ensures.1 (subst (IsAstray c.args.schema.now end c.args.rule) same h.2) in let f = c.if-branch.false in cc)

pub returns : goal.returns
returns c = λ z h.
    let zones = c.args.group.now in
    c.loop-place.invariant h.0 (omega (arith, slice_get_within (entries zones) h.0 z h.2, length-map zones entry, c.loop-place-test.false)) h.1.is
