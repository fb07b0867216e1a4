use Rattle.std.proofs.Common.{◌+◌, arith, rules}
use Rattle.edi_line.specs.ZoneData.{entries}
use Rattle.edi_line.specs.Zones.{groups_of}
use Rattle.edi_explain.specs.KindClasses.{IsClassBehind, codes_of}
use Rattle.edi_explain.proofs.KindRows.{class_here, none_left, states_here}
use Rattle.edi_plan.proofs.Leasts.{least_here, none_here}
use Rattle.edi_explain.proofs.RowGroups.{here_left, next_left}
use Rattle.edi_explain.proofs.kind_classes.class_behind.Goals as goal
use Rattle.edi_explain.proofs.kind_classes.class_behind.Goals.{else-number-behind-via-then-number-behind+else-states_class, else-number-behind-via-else-number-behind}

pub returns-then-states_class : goal.returns-then-states_class
returns-then-states_class c =
    let groups = groups_of (entries c.args.zones.now) in
    let kinds = codes_of c.args.codes.now in
    let there = here_left groups c.loop-rest.number c.loop-rest.rest.now (entries c.in-Some.group.now) c.in-len1-up.len_at_least c.loop-rest.invariant.left c.in-Some.ensures in
    least_here (IsClassBehind groups kinds c.args.role c.args.behind) (c.loop-rest.number + 1) c.loop-rest.invariant.none
    (class_here groups kinds c.args.role c.args.behind c.loop-rest.number (entries c.in-Some.group.now) c.if-number-behind.true there (c.states_class.ensures.0 c.if-states_class.true))

pub loop-rest-preserved-else-number-behind : goal.loop-rest-preserved-else-number-behind
loop-rest-preserved-else-number-behind c =
    let groups = groups_of (entries c.args.zones.now) in
    let kinds = codes_of c.args.codes.now in
    let there = here_left groups c.loop-rest.number c.loop-rest.rest.now (entries c.in-Some.group.now) c.in-len1-up.len_at_least c.loop-rest.invariant.left c.in-Some.ensures in
    record {
      within = let w = c.loop-rest.invariant.within in let l = c.in-len1-up.len_at_least in search rules;
      left = next_left groups c.loop-rest.number c.loop-rest.rest.now (entries c.in-Some.group.now) c.in-len1-up.len_at_least c.loop-rest.invariant.left c.in-Some.ensures;
      none = none_here (IsClassBehind groups kinds c.args.role c.args.behind) (c.loop-rest.number + 1) c.loop-rest.invariant.none
          (λ h. elim c.else-number-behind.branch [
            | else-number-behind-via-then-number-behind+else-states_class w ↦
                let t = w.states_class.ensures.1 (states_here groups kinds c.args.role c.args.behind c.loop-rest.number (entries c.in-Some.group.now) there h) in let f = w.if-states_class.false in cc
            | else-number-behind-via-else-number-behind w ↦ omega (arith, h.0, w.if-number-behind.false)
          ]);
    }

pub returns : goal.returns
returns c =
    none_left (groups_of (entries c.args.zones.now)) (codes_of c.args.codes.now) c.args.role c.args.behind c.loop-rest.number c.loop-rest.rest.now c.in_default.len_below
    c.loop-rest.invariant.left c.loop-rest.invariant.none
