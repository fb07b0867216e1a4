use Rattle.std.proofs.Common.{◌++◌, [], ◌∷◌, arith, subst, sym, take}
use Rattle.std.proofs.lemmas.List.{length-map}
use Rattle.std.proofs.lemmas.Option.{slice_get_within}
use Rattle.edi_line.specs.ZoneData.{entries, entry}
use Rattle.edi_record.proofs.StatesSaid.{open_more, open_none}
use Rattle.edi_explain.specs.BreakingZones.{PassesAt}
use Rattle.edi_explain.specs.inner.OpenAttributes.{LeaveOpen}
use Rattle.edi_explain.proofs.ExtraZonesOf.{entries_more}
use Rattle.edi_plan.proofs.Leasts.{least_here, none_here}
use Rattle.edi_explain.proofs.Passing.{zone_there}
use Rattle.edi_explain.proofs.breaking.first_passing.Goals as goal

pub loop-place-init : goal.loop-place-init
loop-place-init c = (open_none, λ k less. absurd (omega (arith, less)))

pub returns-then-passes_at : goal.returns-then-passes_at
returns-then-passes_at c =
    let zones = c.args.group.now in
    let place = c.loop-place.place in (
      place,
      least_here (PassesAt c.args.test (entries zones)) place c.loop-place.invariant.1 (c.passes_at.ensures.0 c.if-passes_at.true),
      zone_there zones place c.index-group-place.result c.loop-place-test.true c.index-group-place.is,
    )

pub loop-place-preserved : goal.loop-place-preserved
loop-place-preserved c =
    let zones = c.args.group.now in
    let place = c.loop-place.place in
    let z = c.index-group-place-in-loop-place.result in
    let front = entries (take place zones) in (
      subst (LeaveOpen c.is_open_behind-is_open.result) (sym (entries_more zones place z c.loop-place-test.true c.index-group-place-in-loop-place.is))
          (subst (λ b. LeaveOpen b (front ++ entry z ∷ [])) (sym c.is_open_behind-is_open.ensures) (open_more c.loop-place.is_open front (entry z) c.loop-place.invariant.0)),
      none_here (PassesAt c.args.test (entries zones)) place c.loop-place.invariant.1 (λ h. let t = c.passes_at.ensures.1 h in let f = c.if-passes_at.false in cc),
    )

pub returns : goal.returns
returns c = λ z h.
    let zones = c.args.group.now in
    c.loop-place.invariant.1 h.0 (omega (arith, slice_get_within (entries zones) h.0 z h.2, length-map zones entry, c.loop-place-test.false)) h.1.is
