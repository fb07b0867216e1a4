use Rattle.edi_line.specs.ZoneData.{entries}
use Rattle.edi_explain.proofs.HandedOn.{all_handed, group_is_one, none_handed, none_more_handed, one_more_handed}
use Rattle.edi_explain.proofs.lost_ends.hand_on.Goals as goal

pub loop-rest-init : goal.loop-rest-init
loop-rest-init g c = none_handed (g.O.WholeGroupOut.Holds c.args.out.now) (entries c.args.zones.now)

pub take-requires : goal.take-requires
take-requires g c = group_is_one c.loop-rest.rest.now (entries c.in-Some.group.now) c.in-len1-up.len_at_least c.in-Some.ensures

pub loop-rest-preserved-in_ok-take : goal.loop-rest-preserved-in_ok-take
loop-rest-preserved-in_ok-take g c =
    one_more_handed (g.O.WholeGroupOut.Holds c.args.out.now) (entries c.args.zones.now) (g.O.WholeGroupOut.Holds c.loop-rest.out) (g.O.WholeGroupOut.Holds c.take.new.self) c.loop-rest.rest.now (entries c.in-Some.group.now)
    c.in-len1-up.len_at_least c.in-Some.ensures c.loop-rest.invariant c.in_ok-take.ensures

pub loop-rest-preserved : goal.loop-rest-preserved
loop-rest-preserved g c =
    none_more_handed (g.O.WholeGroupOut.Holds c.args.out.now) (entries c.args.zones.now) (g.O.WholeGroupOut.Holds c.loop-rest.out) c.loop-rest.rest.now c.in-len1-up.len_at_least c.in_default-group_here.ensures c.loop-rest.invariant

pub returns : goal.returns
returns g c = all_handed (g.O.WholeGroupOut.Holds c.args.out.now) (entries c.args.zones.now) (g.O.WholeGroupOut.Holds c.loop-rest.out) c.loop-rest.rest.now c.in_default.len_below c.loop-rest.invariant
