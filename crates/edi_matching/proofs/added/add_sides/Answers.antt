use Rattle.edi_matching.proofs.KeysAdded.{AreOnSides, on_sides, then_both}
use Rattle.edi_matching.proofs.added.add_sides.Goals as goal

pub loop-role-preserved : goal.loop-role-preserved
loop-role-preserved c =
    let p = c.args.first.plan.now in
    let q = c.args.other.now in
    then_both (AreOnSides p q c.args.arc c.args.target c.args.is_turned) c.args.to.now c.args.taken.now c.loop-role.to c.loop-role.taken c.add_same.new.to c.add_same.new.taken c.loop-role.invariant p q
    c.side-place.result c.side-beside.result
    (on_sides p q c.args.arc c.args.target c.args.is_turned _ c.role_if_turned-there.result c.side-place.result c.side-beside.result c.role_if_turned-there.ensures c.side-place.ensures c.side-beside.ensures) c.in_ok-add_same.ensures
