use Rattle.std.proofs.Common.{◌<◌, sym, arith}
use Rattle.edi_line.specs.ZoneData.{entries}
use Rattle.edi_line.specs.Zones.{groups_of}
use Rattle.edi_explain.specs.inner.RowPartners.{IsEarlierRow, PassesRow}
use Rattle.edi_plan.proofs.Leasts.{least_here, none_here}
use Rattle.edi_explain.proofs.RowGroups.{earlier_row, row_passes, here_left, next_left, ended}
use Rattle.edi_explain.proofs.rows.first_row.Goals as goal

pub returns-then-at-place : goal.returns-then-at-place
returns-then-at-place c = λ k h. c.loop-rest.invariant.none k (omega (arith, h.2, c.if-at-place.true)) h

pub returns-then-passes : goal.returns-then-passes
returns-then-passes c =
    let groups = groups_of (entries c.args.zones.now) in
    let test = PassesRow c.args.test.now in
    let less : c.loop-rest.at < c.args.place = omega (arith, c.loop-rest.invariant.within, c.if-at-place.false) in
    let there = here_left groups c.loop-rest.at c.loop-rest.rest.now (entries c.in-Some.earlier.now) c.in-len1-up.len_at_least c.loop-rest.invariant.left c.in-Some.ensures in
    least_here (IsEarlierRow test groups c.args.place) c.loop-rest.at c.loop-rest.invariant.none
    (earlier_row test groups c.args.place c.loop-rest.at _ _ less there (sym c.in_ok-group_of.ensures) (c.passes.ensures.0 c.if-passes.true))

pub loop-rest-preserved-else-passes : goal.loop-rest-preserved-else-passes
loop-rest-preserved-else-passes c =
    let groups = groups_of (entries c.args.zones.now) in
    let test = PassesRow c.args.test.now in
    let less : c.loop-rest.at < c.args.place = omega (arith, c.loop-rest.invariant.within, c.if-at-place.false) in
    let there = here_left groups c.loop-rest.at c.loop-rest.rest.now (entries c.in-Some.earlier.now) c.in-len1-up.len_at_least c.loop-rest.invariant.left c.in-Some.ensures in
    record {
      within = omega (arith, less);
      left = next_left groups c.loop-rest.at c.loop-rest.rest.now (entries c.in-Some.earlier.now) c.in-len1-up.len_at_least c.loop-rest.invariant.left c.in-Some.ensures;
      none = none_here (IsEarlierRow test groups c.args.place) c.loop-rest.at c.loop-rest.invariant.none
          (λ h. let t = c.passes.ensures.1 (row_passes test groups c.args.place c.loop-rest.at _ _ less there (sym c.in_ok-group_of.ensures) h) in let f = c.if-passes.false in cc);
    }

pub returns : goal.returns
returns c = λ k h. ended (groups_of (entries c.args.zones.now)) c.loop-rest.at c.args.place c.loop-rest.rest.now _ c.in_default.len_below c.loop-rest.invariant.left c.loop-rest.invariant.within h.4
